use Rattle.std.proofs.Common.{◌≡◌, ◌+◌, ◌≤◌, drop, length}
use Rattle.std.specs.List.{prefix_len}
use Rattle.deleted_text.specs.Ranges.{run_end}
use Rattle.deleted_text.proofs.ranges.end_of.Given as goal

-- those so far are deleted
abbrev pub invariant-loop-end : goal.invariant-loop-end
invariant-loop-end l = record {
  same : run_end l.flags l.at ≡ l.end + prefix_len (λ flag. flag) (drop l.end l.flags);
  within : l.end ≤ length l.flags;
}
