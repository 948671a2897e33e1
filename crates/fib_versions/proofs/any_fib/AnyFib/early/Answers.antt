-- The counts are those of a FIB.
use Rattle.std.proofs.Common.{subst}
use Rattle.doc_bits.specs.Rules.{Hold}
use Rattle.fib_versions.specs.VersionRules.{version_rules}
use Rattle.fib_versions.proofs.VersionLemmas.{early_counts}
use Rattle.fib_versions.proofs.any_fib.AnyFib.early.Goals as goal

pub made-requires-clause-counts : goal.made-requires-clause-counts
made-requires-clause-counts c =
    let hold : Hold (version_rules c.args.self.now) =
    subst (λ w. Hold (version_rules w)) c.self.view_is c.self.invariant in
    rw c.ccps.ensures (early_counts c.args.self.now hold)
