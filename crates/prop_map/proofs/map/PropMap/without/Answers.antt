use Rattle.std.proofs.Common.{◌∙◌, sym, ap, subst, map as each}
use Rattle.prop_map.specs.Formed.{IsPropertyMap}
use Rattle.prop_map.specs.Overlay.{without}
use Rattle.prop_map.proofs.OverlayLemmas.{put_first}
use Rattle.prop_map.proofs.MapLemmas.{same_properties, without_formed}
use Rattle.prop_map.proofs.map.PropMap.without.Goals as goal

pub returns-clause-map : goal.returns-clause-map
returns-clause-map c =
    let codes = each (λ k. k.0) c.args.codes.now in
    let draft = same_properties c.put_all.new.self c.args.self.now (λ code. put_first _ _ c.args.self.now code
    (c.in_ok-put_all.ensures code) c.new-draft.ensures) in
    c.in_ok-made.ensures ∙ (c.remove.ensures ∙ ap (without codes) draft)

pub returns-clause-formed : goal.returns-clause-formed
returns-clause-formed c = λ groups formed. subst (IsPropertyMap groups) (sym (returns-clause-map c)) (without_formed
    groups (each (λ k. k.0) c.args.codes.now) c.args.self.now formed)
