use Rattle.std.proofs.Common.{◌≡◌, ◌∙◌, Some, None, sym, subst}
use Rattle.std.specs.Prelude.{IfOk}
use Rattle.prop_map.specs.Settings.{Properties}
use Rattle.prop_map.specs.Formed.{IsPropertyMap, character_groups}
use Rattle.prop_map.proofs.Public.{IsPropertyMap-empty}
use Rattle.edit_ops.proofs.FreshTextLemmas.{base_by, chp_formed}
use Rattle.edit_ops.proofs.fresh.base_properties.Goals as goal

pub returns-in-None-clause-map : goal.returns-in-None-clause-map
returns-in-None-clause-map c = c.new.ensures ∙ sym (base_by c.args.text.now c.args.at None c.in-None.ensures)

pub returns-in-None-clause-formed : goal.returns-in-None-clause-formed
returns-in-None-clause-formed c =
    subst (IsPropertyMap character_groups) (sym c.new.ensures) (IsPropertyMap-empty character_groups)

pub without_special-requires : goal.without_special-requires
without_special-requires c =
    chp_formed c.args.text.now c.args.at c.in-Some.chp.now c.len-len.ensures.formed c.in-Some.ensures

pub returns-in-Some-clause-map : goal.returns-in-Some-clause-map
returns-in-Some-clause-map c =
    subst (λ (s : Properties). IfOk c.without_special.result (λ base. base ≡ s))
    (sym (base_by c.args.text.now c.args.at (Some c.in-Some.chp.now) c.in-Some.ensures)) c.without_special.ensures.map
