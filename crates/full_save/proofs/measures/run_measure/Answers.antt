use Rattle.std.proofs.Common.{◌*◌, ap, arith, mul-le-mul}
use Rattle.full_save.proofs.measures.run_measure.Goals as goal

pub unit_count-requires : goal.unit_count-requires
unit_count-requires c = let none = c.if-run-eq0.false in c.requires.each (omega arith)

pub returns-clause-is : goal.returns-clause-is
returns-clause-is c = ap (λ n. c.args.run.now.count * n) c.unit_count.ensures.is

pub returns-clause-bound : goal.returns-clause-bound
returns-clause-bound c = mul-le-mul (omega arith) c.unit_count.ensures.bound
