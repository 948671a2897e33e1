use Rattle.std.proofs.Common.{◌*◌, ◌^◌, ◌<◌, length, sum, ap, arith, rules}
use Rattle.cfb_layout.proofs.CountLemmas.{length-sector_counts}
use Rattle.cfb_layout.proofs.WritableLemmas.{bounded}
use Rattle.cfb_layout.proofs.plan.Plan.root.Goals as goal

pub first_sector-requires : goal.first_sector-requires
first_sector-requires c =
    let len = ap length c.self.invariant.sectors_are in
    let all = length-sector_counts c.self.inside.lengths.items in
    let count = c.self.inside.lengths.ok.0 in
    omega arith

pub overflow_mul-result : goal.overflow_mul-result
overflow_mul-result c =
    let b = bounded c.self.inside.lengths.items c.self.invariant.fits in
    let minis = b.minis in
    let same = ap sum c.self.invariant.minis_are in
    let total = c.total.ensures in
    let h : 64 * c.total.result < 2 ^ 32 = omega arith in
    search rules
