use Rattle.std.proofs.Common.{◌-◌, ◌≤◌, length}
use Rattle.sprm_table.proofs.FaultLemmas.{Passed}
use Rattle.sprm_table.proofs.lists.list_fault.Given as goal

-- whole entries without a fault come before the place
abbrev pub invariant-loop-code : goal.invariant-loop-code
invariant-loop-code l = record { within : l.at ≤ length l.list; passed : Passed l.list l.groups l.at }

abbrev pub decreases-loop-code : goal.decreases-loop-code
decreases-loop-code l = length l.list - l.at
