use Rattle.std.proofs.Common.{◌∙◌, ◌++◌, ap, sym, subst}
use Rattle.prop_map.specs.Settings.{Properties}
use Rattle.prop_map.specs.Formed.{IsPropertyMap, character_groups}
use Rattle.doc_columns.specs.Columns.{bare_items}
use Rattle.edit_ops.proofs.FreshTextLemmas.{length-units}
use Rattle.edit_ops.proofs.fresh.with_units.Goals as goal

pub add_units-requires-clause-map : goal.add_units-requires-clause-map
add_units-requires-clause-map c =
    subst (IsPropertyMap character_groups) (sym c.in_ok-own.ensures) c.requires.map

pub returns-clause-items : goal.returns-clause-items
returns-clause-items c =
    c.in_ok-made.ensures
    ∙ ap (λ (s : Properties). c.args.text ++ bare_items s c.args.units.now) c.in_ok-own.ensures

pub returns-clause-len : goal.returns-clause-len
returns-clause-len c =
    length-units c.args.text c.in_ok-made.made c.in_ok-own.own c.args.units.now c.in_ok-made.ensures
