-- The first 93 pairs are there.
use Rattle.std.proofs.Common.{arith}
use Rattle.fib_versions.proofs.VersionLemmas.{long_enough}
use Rattle.fib_versions.proofs.any_fib.AnyFib.part.Goals as goal

pub get32-from-requires : goal.get32-from-requires
get32-from-requires c = omega (arith, long_enough c.self.inside.wd.now c.self.invariant, c.requires)

pub get32-len-requires : goal.get32-len-requires
get32-len-requires c = omega (arith, long_enough c.self.inside.wd.now c.self.invariant, c.requires)
