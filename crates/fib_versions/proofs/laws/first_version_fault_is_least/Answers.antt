use Rattle.std.proofs.Common.{◌≤◌}
use Rattle.doc_bits.proofs.Public.{least_of_all}
use Rattle.fib_versions.specs.VersionRules.{version_rules}
use Rattle.fib_versions.proofs.VersionLemmas.{version_rules-IsSingle, version_rules-Ascends}
use Rattle.fib_versions.proofs.laws.first_version_fault_is_least.Goals as goal

pub returns : goal.returns
returns c = λ wd r p first. least_of_all (λ a b. a ≤ b) (version_rules wd) 16 24 r p (version_rules-IsSingle wd)
    (version_rules-Ascends wd) first
