use Rattle.std.proofs.Common.{refl}
use Rattle.huge_papx.proofs.OffsetLemmas.{offset_listed}
use Rattle.huge_papx.proofs.offsets.offset_of.Goals as goal

pub returns-in_default : goal.returns-in_default
returns-in_default c = λ offset is. c.in_default.ensures is.list offset is.has is.names

pub returns : goal.returns
returns c =
    offset_listed c.args.wd.now c.args.bin.now c.args.fc c.args.unit c.in-Some.list.now
    (c.if-not-ends_cell.ensures.0 refl) c.requires c.in-Some.ensures
    c.offset_in.result c.offset_in.ensures

pub returns-then-not-ends_cell : goal.returns-then-not-ends_cell
returns-then-not-ends_cell c = λ offset is. absurd (cc (c.if-not-ends_cell.ensures.1 is.cell))
