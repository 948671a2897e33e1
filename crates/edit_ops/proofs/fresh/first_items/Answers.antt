use Rattle.std.proofs.Common.{sym, subst}
use Rattle.prop_map.specs.Formed.{IsPropertyMap, character_groups}
use Rattle.prop_map.proofs.Public.{IsPropertyMap-empty}
use Rattle.edit_ops.proofs.FreshTextLemmas.{two_ends}
use Rattle.edit_ops.proofs.fresh.first_items.Goals as goal

pub add_units-requires-clause-map : goal.add_units-requires-clause-map
add_units-requires-clause-map c =
    subst (IsPropertyMap character_groups) (sym c.new-none.ensures) (IsPropertyMap-empty character_groups)

pub returns : goal.returns
returns c =
    two_ends c.args.units.now c.new-none.result c.new.result c.in_ok-shown.shown c.in_ok-ended.ended c.in_ok-made.made
    c.plain_end.result c.plain_end-2.result c.new-none.ensures c.new.ensures c.in_ok-shown.ensures
    c.plain_end.ensures.item c.in_ok-ended.ensures c.plain_end-2.ensures.item c.in_ok-made.ensures
