-- All stories have few characters together.
use Rattle.std.proofs.Common.{arith}
use Rattle.fib_versions.proofs.VersionLemmas.{few_characters}
use Rattle.fib_versions.proofs.any_fib.AnyFib.early_ccp.Goals as goal

pub overflow_add-result : goal.overflow_add-result
overflow_add-result c = omega (
  arith,
  few_characters c.self.inside.wd.now c.self.invariant,
  c.get32-main.ensures,
  c.get32-notes.ensures,
)

pub overflow_add-result-2 : goal.overflow_add-result-2
overflow_add-result-2 c = omega (
  arith,
  few_characters c.self.inside.wd.now c.self.invariant,
  c.get32-main.ensures,
  c.get32-notes.ensures,
  c.get32-heads.ensures,
)
