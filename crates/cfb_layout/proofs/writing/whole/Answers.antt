use Rattle.std.proofs.Common.{sum, ap, arith}
use Rattle.cfb_layout.proofs.writing.whole.Goals as goal

pub sectors_needed-sectors-requires : goal.sectors_needed-sectors-requires
sectors_needed-sectors-requires c =
    let few = c.in_ok-lengths.ensures.few in
    let same = ap sum c.deref.ensures.value in
    omega arith
