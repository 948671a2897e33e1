use Rattle.std.proofs.Common.{◌≡◌}
use Rattle.doc_bits.specs.Rules.{Among, LeastOrNone}
use Rattle.cfb_sectors.specs.Marks.{IsMarked}
use Rattle.cfb_sectors.specs.Tables.{table_at}
use Rattle.cfb_sectors.proofs.claims.Claims.least.Given as goal

abbrev pub invariant-loop-sector : goal.invariant-loop-sector
invariant-loop-sector l = LeastOrNone
    (Among l.sector (λ s place. IsMarked l.self.shared s × (place ≡ (table_at l.table).place s))) l.least
