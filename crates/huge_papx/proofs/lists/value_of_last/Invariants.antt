use Rattle.std.specs.Prelude.{option_map}
use Rattle.std.proofs.Common.{◌≡◌, ◌-◌, List, length}
use Rattle.sprm_table.specs.Sprm.{Prl, SpellsSprmList}
use Rattle.huge_papx.proofs.ListLemmas.{FoundSoFar}
use Rattle.huge_papx.proofs.lists.value_of_last.Given as goal

abbrev pub invariant-loop-code : goal.invariant-loop-code
invariant-loop-code l = record {
  bytes : l.prls.bytes ≡ l.list;
  so_far : (prls : List Prl) → SpellsSprmList l.list prls →
      FoundSoFar l.sought prls l.prls (option_map (λ value. value.now) l.last);
}

abbrev pub decreases-loop-code : goal.decreases-loop-code
decreases-loop-code l = length l.prls.bytes - l.prls.at
