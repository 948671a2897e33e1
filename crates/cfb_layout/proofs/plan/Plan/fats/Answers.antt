use Rattle.std.proofs.Common.{sum, ap, arith}
use Rattle.cfb_layout.proofs.FileLemmas.{fats_few}
use Rattle.cfb_layout.specs.Sectors.{units_for}
use Rattle.cfb_layout.proofs.plan.Plan.fats.Goals as goal

pub returns-clause-few : goal.returns-clause-few
returns-clause-few c =
    let few = fats_few c.self.inside.lengths.items c.self.invariant.fits in
    let same = ap (λ counts. units_for 127 (sum counts)) c.self.invariant.sectors_are in
    let total = ap (λ n. units_for 127 n) c.total.ensures in
    let is = c.units_for.ensures in
    omega arith
