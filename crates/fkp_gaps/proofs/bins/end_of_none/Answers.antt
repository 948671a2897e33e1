use Rattle.std.proofs.Common.{arith}
use Rattle.fkp_gaps.proofs.GapLemmas.{none_before, none_behind}
use Rattle.fkp_gaps.proofs.bins.end_of_none.Goals as goal

pub returns-then-at-first-clause-none : goal.returns-then-at-first-clause-none
returns-then-at-first-clause-none c =
    λ fc low high. none_before c.args.bin.now fc c.requires.table (omega (arith, high, c.get32-first.ensures))

pub returns-else-at-first-clause-none : goal.returns-else-at-first-clause-none
returns-else-at-first-clause-none c =
    λ fc low high. none_behind c.args.bin.now c.args.at fc c.requires.none
    (omega (arith, c.if-at-first.false, c.get32-first.ensures)) low
