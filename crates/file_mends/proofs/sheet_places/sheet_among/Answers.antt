use Rattle.std.proofs.Common.{arith}
use Rattle.file_mends.proofs.SheetLemmas.{more_by, none_by}
use Rattle.file_mends.proofs.sheet_places.sheet_among.Goals as goal

pub loop-i-preserved : goal.loop-i-preserved
loop-i-preserved c = more_by c.args.container.now c.loop-i.i c.loop-i.invariant c.in_default.ensures

pub returns : goal.returns
returns c =
    none_by c.args.container.now c.loop-i.i (omega (arith, c.loop-i-test.false, c.count-i-end.ensures))
    c.loop-i.invariant
