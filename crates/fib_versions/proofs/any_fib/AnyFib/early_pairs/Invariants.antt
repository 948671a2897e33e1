use Rattle.std.proofs.Common.{◌≡◌, ℕ, ◌<◌, length}
use Rattle.fib_form.specs.Fib.{kept_pairs}
use Rattle.fib_form.specs.FibFields.{listed_pair}
use Rattle.fib_versions.specs.Early.{early_pair}
use Rattle.fib_versions.proofs.any_fib.AnyFib.early_pairs.Given as goal

-- the pairs before this one are put
abbrev pub invariant-loop-n : goal.invariant-loop-n
invariant-loop-n l = record {
  count : length l.pairs ≡ kept_pairs;
  put : (k : ℕ) → k < l.n → listed_pair l.pairs k ≡ early_pair l.self k;
}
