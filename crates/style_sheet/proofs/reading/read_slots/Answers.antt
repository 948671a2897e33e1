use Rattle.std.proofs.Common.{◌≡◌, ℕ, ◌+◌, ◌-◌, ◌<◌, [], ◌∷◌, length, length-append, sym, ap, ◌∙◌, subst, arith}
use Rattle.style_sheet.specs.Sheet.{Sheet, style_at}
use Rattle.style_sheet.specs.Stsh.{slot_place, SpellsSlot}
use Rattle.style_sheet.proofs.ReadLemmas.{place_step, slots_more}
use Rattle.style_sheet.proofs.reading.read_slots.Goals as goal

pub read_slot-requires-clause-slot : goal.read_slot-requires-clause-slot
read_slot-requires-clause-slot c =
    let some = c.requires.stshif.some in
    rw (c.get16-base.ensures, c.first_slot-place.ensures.place) (c.requires.slots 0 (omega arith))

pub read_slot-requires-clause-accepted : goal.read_slot-requires-clause-accepted
read_slot-requires-clause-accepted c =
    let some = c.requires.stshif.some in
    rw (c.get16-base.ensures, c.first_slot-place.ensures.place) (c.requires.accepted 0 (omega arith))

pub read_slot-requires-in-loop-slot-clause-slot : goal.read_slot-requires-in-loop-slot-clause-slot
read_slot-requires-in-loop-slot-clause-slot c =
    let inv = c.loop-slot.invariant in
    let end = c.get16-slot-end.ensures in
    let next = place_step c.args.part.now c.loop-slot._slot c.loop-slot.place c.next_place-place.result inv.some
    inv.place c.next_place-place.ensures.next in
    rw (c.get16-base.ensures, next) (c.requires.slots c.loop-slot._slot (omega arith))

pub read_slot-requires-in-loop-slot-clause-accepted : goal.read_slot-requires-in-loop-slot-clause-accepted
read_slot-requires-in-loop-slot-clause-accepted c =
    let inv = c.loop-slot.invariant in
    let end = c.get16-slot-end.ensures in
    let next = place_step c.args.part.now c.loop-slot._slot c.loop-slot.place c.next_place-place.result inv.some
    inv.place c.next_place-place.ensures.next in
    rw (c.get16-base.ensures, next) (c.requires.accepted c.loop-slot._slot (omega arith))

pub loop-slot-preserved : goal.loop-slot-preserved
loop-slot-preserved c =
    let part = c.args.part.now in
    let n = c.loop-slot._slot in
    let inv = c.loop-slot.invariant in
    let made = c.in_ok-add.ensures.ok in
    let slot = c.in_ok-read_slot-2.field-0 in
    let next = place_step part n c.loop-slot.place c.next_place-place.result inv.some inv.place
    c.next_place-place.ensures.next in
    let same : n ≡ n + 1 - 1 = omega arith in
    let spelt : SpellsSlot part n slot = rw (c.get16-base.ensures, next) at c.in_ok-read_slot-2.ensures.spelt in
    record {
      some = omega arith;
      place = next ∙ ap (slot_place part) same;
      head = ap Sheet.head made ∙ inv.head;
      count = ap (λ sheet. length sheet.styles) made ∙ (length-append c.loop-slot.sheet.styles (slot ∷ []) ∙ ap
          (λ k. k + 1) inv.count);
      styles = subst (λ sheet. (k : ℕ) → k < n + 1 → SpellsSlot part k (style_at sheet k)) (sym made) (slots_more part
          c.loop-slot.sheet.styles slot n inv.count inv.styles spelt);
    }
