use Rattle.std.proofs.Common.{◌≡◌, ℕ, ◌<◌, length}
use Rattle.fib_form.specs.Fib.{kept_pairs, fib_pair}
use Rattle.fib_form.specs.FibFields.{listed_pair}
use Rattle.fib_form.proofs.reading.pairs.Given as goal

-- the pairs before this one are read
abbrev pub invariant-loop-n : goal.invariant-loop-n
invariant-loop-n l = record {
  count : length l.pairs ≡ kept_pairs;
  read : (k : ℕ) → k < l.n → listed_pair l.pairs k ≡ fib_pair l.wd k;
}
