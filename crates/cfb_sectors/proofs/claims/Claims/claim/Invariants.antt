use Rattle.std.proofs.Common.{◌≡◌, length}
use Rattle.cfb_sectors.specs.Claims.{HasFront, TakesSectors}
use Rattle.cfb_sectors.proofs.claims.Claims.claim.Given as goal

abbrev pub invariant-loop-sector : goal.invariant-loop-sector
invariant-loop-sector l = record {
  takes : TakesSectors (HasFront l.sectors l.sector-index) l.fn.self l.self;
  len : length l.self.taken ≡ length l.fn.self.taken;
}
