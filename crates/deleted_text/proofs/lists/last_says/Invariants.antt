use Rattle.std.proofs.Common.{◌≡◌, ◌-◌, List, length}
use Rattle.sprm_table.specs.Sprm.{Prl, SpellsSprmList}
use Rattle.deleted_text.proofs.ListLemmas.{SaysSoFar}
use Rattle.deleted_text.proofs.lists.last_says.Given as goal

abbrev pub invariant-loop-code : goal.invariant-loop-code
invariant-loop-code l = record {
  bytes : l.prls.bytes ≡ l.list;
  so_far : (prls : List Prl) → SpellsSprmList l.list prls → SaysSoFar prls l.prls l.deleted;
}

abbrev pub decreases-loop-code : goal.decreases-loop-code
decreases-loop-code l = length l.prls.bytes - l.prls.at
