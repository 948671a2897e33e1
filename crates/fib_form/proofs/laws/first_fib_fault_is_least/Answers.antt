use Rattle.std.proofs.Common.{◌≤◌}
use Rattle.doc_bits.proofs.Public.{least_of_all}
use Rattle.fib_form.specs.FibRules.{fib_rules}
use Rattle.fib_form.proofs.FibRuleLemmas.{fib_rules-IsSingle, fib_rules-Ascends}
use Rattle.fib_form.proofs.laws.first_fib_fault_is_least.Goals as goal

pub returns : goal.returns
returns c = λ wd r p first. least_of_all (λ a b. a ≤ b) (fib_rules wd) 16 25 r p (fib_rules-IsSingle wd)
    (fib_rules-Ascends wd) first
