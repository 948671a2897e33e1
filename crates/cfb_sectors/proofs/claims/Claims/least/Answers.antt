use Rattle.std.proofs.Common.{◌≡◌, ℕ, ◌+◌, ◌<◌, length, sym, ap, subst, arith}
use Rattle.doc_bits.specs.Rules.{Among, LeastOrNone}
use Rattle.doc_bits.proofs.Public.{least_step}
use Rattle.cfb_sectors.specs.Marks.{IsMarked}
use Rattle.cfb_sectors.specs.Tables.{table_at}
use Rattle.cfb_sectors.proofs.MarkLemmas.{marked_below}
use Rattle.cfb_sectors.proofs.ClaimLemmas.{shared_among}
use Rattle.cfb_sectors.proofs.claims.Claims.least.Goals as goal

pub loop-sector-preserved : goal.loop-sector-preserved
loop-sector-preserved c =
    let each : ℕ → ℕ → Type 0 = λ s place. IsMarked c.args.self.now.shared s
    × (place ≡ (table_at c.args.table.now).place s) in
    subst (LeastOrNone (Among (c.loop-sector.sector + 1) each)) (sym c.lesser-least.ensures)
    (least_step each c.loop-sector.sector c.loop-sector.least c.shared_place.result c.loop-sector.invariant
    c.shared_place.ensures)

pub returns : goal.returns
returns c =
    let len : length c.self.inside.shared ≡ length c.self.inside.taken = c.self.invariant in
    let view = ap (λ k. length k.shared) c.self.view_is in
    let inside : (s : ℕ) → IsMarked c.args.self.now.shared s → s < c.loop-sector.sector = λ s h.
    let low = marked_below c.args.self.now.shared s h in
    omega (arith, c.len-sector-end.ensures, c.loop-sector-test.false) in
    shared_among c.args.self.now (table_at c.args.table.now).place c.loop-sector.sector c.loop-sector.least inside
    c.loop-sector.invariant
