use Rattle.std.proofs.Common.{◌≡◌, ◌-◌, List, length}
use Rattle.std.specs.FinMap.{empty}
use Rattle.sprm_table.specs.Sprm.{Prl, SpellsSprmList}
use Rattle.prop_map.specs.Values.{set_map, AreCodesInOrder}
use Rattle.prop_map.specs.Steps.{HasActedUpTo}
use Rattle.prop_map.proofs.acting.act_by_values.Given as goal

abbrev pub invariant-loop-code : goal.invariant-loop-code
invariant-loop-code l = record {
  list_is : l.prls.bytes ≡ l.list;
  order : AreCodesInOrder l.values.items;
  so_far : (prls : List Prl) → SpellsSprmList l.list prls → HasActedUpTo prls l.groups empty l.prls
      (set_map l.values.items) l.istd;
}

abbrev pub decreases-loop-code : goal.decreases-loop-code
decreases-loop-code l = length l.prls.bytes - l.prls.at
