use Rattle.std.proofs.Common.{◌∙◌, sym, subst, List, ℕ}
use Rattle.sprm_table.specs.Sprm.{Prl, SpellsSprmList, IsAcceptedList}
use Rattle.prop_map.specs.Formed.{IsPropertyMap}
use Rattle.prop_map.specs.Acting.{ArePropertiesAfter}
use Rattle.prop_map.proofs.Public.{IsPropertyMap-empty}
use Rattle.overlapping_grpprls.specs.Keeping.{kept_from}
use Rattle.overlapping_grpprls.proofs.KeepingLemmas.{kept_accepted}
use Rattle.overlapping_grpprls.proofs.keeping.map_from.Goals as goal

pub act-requires : goal.act-requires
act-requires c =
    let kept = kept_accepted c.args.lists.now.stream.now c.args.lists.now.groups c.requires.0 c.args.from
    c.args.kept.now c.requires.1 in
    subst (λ (l : List ℕ). IsAcceptedList l c.args.lists.now.groups) (sym (c.as_slice.ensures ∙
    c.in_ok-list.ensures)) kept.1

pub returns-clause-acted : goal.returns-clause-acted
returns-clause-acted c =
    let list : List Prl = kept_from c.args.lists.now.stream.now c.args.from c.args.kept.now in
    let kept = kept_accepted c.args.lists.now.stream.now c.args.lists.now.groups c.requires.0 c.args.from
    c.args.kept.now c.requires.1 in
    let spelt = subst (λ (l : List ℕ). SpellsSprmList l list) (sym (c.as_slice.ensures ∙ c.in_ok-list.ensures))
    kept.0 in
    subst (λ m. ArePropertiesAfter list c.args.lists.now.groups m c.in_ok-acted.acted.map) c.new-nothing.ensures
    (c.in_ok-acted.ensures.acted list spelt).map

pub returns-clause-formed : goal.returns-clause-formed
returns-clause-formed c = c.in_ok-acted.ensures.formed (subst (IsPropertyMap c.args.lists.now.groups) (sym
    c.new-nothing.ensures) (IsPropertyMap-empty c.args.lists.now.groups))
