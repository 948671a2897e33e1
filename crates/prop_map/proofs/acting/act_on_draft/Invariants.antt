use Rattle.std.proofs.Common.{◌≡◌, ◌-◌, List, length}
use Rattle.sprm_table.specs.Sprm.{Prl, SpellsSprmList}
use Rattle.prop_map.specs.Steps.{HasActedUpTo}
use Rattle.prop_map.proofs.acting.act_on_draft.Given as goal

abbrev pub invariant-loop-code : goal.invariant-loop-code
invariant-loop-code l = record {
  bytes : l.prls.bytes ≡ l.list;
  so_far : (prls : List Prl) → SpellsSprmList l.list prls → HasActedUpTo prls l.groups l.map l.prls l.draft l.istd;
}

abbrev pub decreases-loop-code : goal.decreases-loop-code
decreases-loop-code l = length l.prls.bytes - l.prls.at
