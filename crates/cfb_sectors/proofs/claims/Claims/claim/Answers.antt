use Rattle.std.proofs.Common.{◌∙◌, refl, arith}
use Rattle.cfb_sectors.specs.SectorChain.{HasSector}
use Rattle.cfb_sectors.specs.Claims.{HasFront}
use Rattle.cfb_sectors.proofs.ClaimLemmas.{takes_front, takes_step}
use Rattle.cfb_sectors.proofs.ClaimLemmas.{takes_same}
use Rattle.cfb_sectors.proofs.claims.Claims.claim.Goals as goal

pub loop-sector-init : goal.loop-sector-init
loop-sector-init c = record { takes = takes_front c.args.sectors.now c.args.self.now; len = refl }

pub loop-sector-preserved : goal.loop-sector-preserved
loop-sector-preserved c = record {
  takes = takes_step c.args.sectors.now c.loop-sector.sector-index c.args.self.now c.loop-sector.self c.take.new.self
      c.requires.distinct c.loop-sector-test.true c.loop-sector.invariant.takes c.take.ensures.takes;
  len = c.take.ensures.len ∙ c.loop-sector.invariant.len;
}

pub returns-clause-takes : goal.returns-clause-takes
returns-clause-takes c =
    takes_same (HasFront c.args.sectors.now c.loop-sector.sector-index) (HasSector c.args.sectors.now) c.args.self.now
    c.loop-sector.self
    (λ s h. let b = h.below in record { index = h.index; inside = omega arith; here = h.here })
    (λ s h. let b = h.inside in record { index = h.index; below = omega arith; here = h.here })
    c.loop-sector.invariant.takes
