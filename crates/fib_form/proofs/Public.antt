-- What other crates may cite of these proofs.

-- What was written is read again.
pub use Rattle.fib_form.proofs.FibLemmas.{form_size-least, form_size-most, read_back, sum-three}
-- The rules on the FIB: their numbers ascend, and where they hold the fields are those of a FIB.
pub use Rattle.fib_form.proofs.FibRuleLemmas.{fib_rules-Ascends, fib_rules-IsSingle, is_fib}
-- The flags: their parts are read again, and those that are kept stay.
pub use Rattle.fib_form.proofs.FlagLemmas.{kept_flags-kept}
-- The pairs: put over zeros, and read again.
pub use Rattle.fib_form.proofs.PairLemmas.{empty-ArePairs, length-fib_pairs, pair_at-fib_pairs}
-- What the puts of a FIB leave.
pub use Rattle.fib_form.proofs.WriteLemmas.{drop_front, length-written_fib, take_front}
