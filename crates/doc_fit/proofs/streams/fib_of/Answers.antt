use Rattle.std.proofs.Common.{◌≤◌}
use Rattle.doc_bits.proofs.Public.{hold_or_first}
use Rattle.fib_versions.specs.VersionRules.{version_rules}
use Rattle.fib_versions.proofs.Public.{version_rules-IsSingle}
use Rattle.doc_fit.proofs.streams.fib_of.Goals as goal

pub unreachable-requires : goal.unreachable-requires
unreachable-requires c =
    let wd = c.args.wd.now in
    hold_or_first (λ a b. a ≤ b) (version_rules wd) c.in-Err.field-0.rule c.in-Err.field-0.offset
    (version_rules-IsSingle wd) c.requires c.in-Err.ensures
