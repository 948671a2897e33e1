use Rattle.std.proofs.Common.{◌≡◌, ap, ◌∙◌, arith}
use Rattle.doc_bits.proofs.Public.{first_among}
use Rattle.style_sheet.specs.Stsh.{slot_place, table_offset, cstd, IsWrongSlot}
use Rattle.style_sheet.proofs.ReadLemmas.{wrong_rises}
use Rattle.style_sheet.proofs.reading.wrong_slot.Goals as goal

pub returns-then-not-is_slot-clause-first : goal.returns-then-not-is_slot-clause-first
returns-then-not-is_slot-clause-first c =
    let part = c.args.part.now in
    let at = c.args.at in
    let n = c.loop-slot._slot in
    let inv = c.loop-slot.invariant in
    let end = c.get16-slot-end.ensures in
    let here : c.table_offset.result ≡ table_offset at (slot_place part n) = c.table_offset.ensures ∙ ap (table_offset
    at) inv.place in
    let wrong = rw (c.get16-base.ensures, inv.place) at c.if-not-is_slot.ensures in
    first_among (IsWrongSlot part at) (cstd part) n c.table_offset.result (wrong_rises part at) (omega arith)
    (λ k below p w. w.wrong (inv.slots k below))
    (record {
      broken = record { here = here; wrong = λ slot. absurd (cc (wrong.1 slot)) };
      least = λ q w. let same = w.here in omega arith;
    })
