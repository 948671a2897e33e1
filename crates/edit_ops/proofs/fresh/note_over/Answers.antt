use Rattle.std.proofs.Common.{◌∙◌, ◌∷◌, [], refl, sym, ap, subst, length, arith}
use Rattle.std.specs.FinMap.{empty}
use Rattle.prop_map.specs.Settings.{Properties}
use Rattle.prop_map.specs.Formed.{IsPropertyMap, character_groups}
use Rattle.prop_map.proofs.Public.{IsPropertyMap-empty}
use Rattle.edit_ops.specs.Fresh.{special, unit_item}
use Rattle.edit_ops.proofs.FreshTextLemmas.{note_parts}
use Rattle.edit_ops.proofs.fresh.note_over.Goals as goal

pub note_begin-requires : goal.note_begin-requires
note_begin-requires c =
    subst (IsPropertyMap character_groups) (sym c.requires.none) (IsPropertyMap-empty character_groups)

pub with_units-requires-clause-few : goal.with_units-requires-clause-few
with_units-requires-clause-few c =
    let one = ap length c.in_ok-begun.ensures in
    let few = c.requires.few in
    omega arith

pub with_units-requires-clause-map : goal.with_units-requires-clause-map
with_units-requires-clause-map c =
    subst (IsPropertyMap character_groups) (sym c.requires.none) (IsPropertyMap-empty character_groups)

pub add-requires-clause-few : goal.add-requires-clause-few
add-requires-clause-few c =
    let one = ap length c.in_ok-begun.ensures in
    let two = c.in_ok-shown.ensures.len in
    let few = c.requires.few in
    omega arith

pub returns : goal.returns
returns c =
    note_parts c.args.units.now c.args.none.now [] c.in_ok-begun.begun c.in_ok-shown.shown c.in_ok-made.made
    (unit_item (special empty) 0x02) c.plain_end.result c.requires.none refl refl
    (c.in_ok-begun.ensures ∙ ap (λ (s : Properties). unit_item (special s) 0x02 ∷ []) c.requires.none)
    c.in_ok-shown.ensures.items c.plain_end.ensures.item c.in_ok-made.ensures
