use Rattle.std.proofs.Common.{◌≡◌, ℕ, List}
use Rattle.doc_bits.specs.Rules.{LeastOrNone, Among}
use Rattle.fib_form.specs.FibFields.{fib_fields}
use Rattle.file_rules.specs.PairRules.{HasWrongPart}
use Rattle.file_rules.proofs.pair_rules.wrong_pair.Given as goal

-- it is the least place of the pairs so far
abbrev pub invariant-loop-k : goal.invariant-loop-k
invariant-loop-k l = (wd : List ℕ) → l.fib ≡ fib_fields wd → LeastOrNone (Among l.k (HasWrongPart wd l.table_len))
    l.least
