use Rattle.std.proofs.Common.{true, false, arith}
use Rattle.script_run.proofs.GeneratedRunLemmas.{counted_saves}
use Rattle.script_run.proofs.generating.generated_saves.Goals as goal

pub returns-clause-fast : goal.returns-clause-fast
returns-clause-fast c =
    let counts = counted_saves false c.args.seed c.requires in
    let all = c.generated_count.ensures in
    omega (arith, counts, all)

pub returns-clause-full : goal.returns-clause-full
returns-clause-full c =
    let counts = counted_saves true c.args.seed c.requires in
    let all = c.generated_count.ensures in
    omega (arith, counts, all)
