-- What other crates may cite of these proofs.

-- The early FIB: its pairs, and that it is a FIB.
pub use Rattle.fib_versions.proofs.EarlyLemmas.{early-read_back, length-early_pairs, pair_at-early_pairs}
-- The rules on the FIB of any program: their numbers ascend, and where they hold its numbers are bounded.
pub use Rattle.fib_versions.proofs.VersionLemmas.{enough_pairs, long_enough, version_rules-Ascends}
pub use Rattle.fib_versions.proofs.VersionLemmas.{version_rules-IsSingle}
