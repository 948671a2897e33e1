use Rattle.std.proofs.Common.{◌≡◌}
use Rattle.fib_versions.specs.Versions.{further_ccps}
use Rattle.fib_versions.proofs.any_fib.AnyFib.further_before.Given as goal

-- the stories before this one are counted
abbrev pub invariant-loop-k : goal.invariant-loop-k
invariant-loop-k l = l.before ≡ further_ccps l.self l.k
