use Rattle.std.proofs.Common.{◌≡◌, ◌-◌, ◌≤◌, false, length}
use Rattle.prl_skips.proofs.WalkLemmas.{SkipsFront}
use Rattle.prl_skips.proofs.skips.skip_refused.Given as goal

abbrev pub invariant-loop-code : goal.invariant-loop-code
invariant-loop-code l = record {
  within : l.at ≤ length l.list;
  len : length l.list ≡ length l.fn.list;
  front : SkipsFront l.fn.list l.list l.at;
  same : l.any ≡ false → l.list ≡ l.fn.list;
}

abbrev pub decreases-loop-code : goal.decreases-loop-code
decreases-loop-code l = length l.list - l.at
