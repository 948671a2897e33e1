use Rattle.std.proofs.Common.{length, ap, arith}
use Rattle.cfb_layout.proofs.CountLemmas.{length-sector_counts, length-mini_counts}
use Rattle.cfb_layout.proofs.plan.Plan.stream_start.Goals as goal

pub first_sector-requires : goal.first_sector-requires
first_sector-requires c =
    let len = ap length c.self.invariant.minis_are in
    let all = length-mini_counts c.self.inside.lengths.items in
    let same = ap length c.self.view_is in
    omega arith

pub first_sector-requires-else-index-lt-CUTOFF : goal.first_sector-requires-else-index-lt-CUTOFF
first_sector-requires-else-index-lt-CUTOFF c =
    let len = ap length c.self.invariant.sectors_are in
    let all = length-sector_counts c.self.inside.lengths.items in
    let same = ap length c.self.view_is in
    omega arith
