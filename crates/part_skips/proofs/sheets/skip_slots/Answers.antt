use Rattle.std.proofs.Common.{◌≡◌, ◌<◌, sym, ap, ◌∙◌, subst, arith}
use Rattle.style_sheet.specs.Counted.{even_up, counted_end}
use Rattle.style_sheet.specs.Stsh.{cstd, std_base, IsSlotAt}
use Rattle.part_skips.specs.Sheets.{PutsSlot}
use Rattle.part_skips.proofs.SheetLemmas.{slots_none, next_slot, slots_more, slots_all}
use Rattle.part_skips.proofs.sheets.skip_slots.Goals as goal

pub loop-slot-init : goal.loop-slot-init
loop-slot-init c = slots_none c.args.stsh.now c.first_slot-place.result c.first_slot-place.ensures.place

pub next_place-next-requires : goal.next_place-next-requires
next_place-next-requires c =
    let low : c.loop-slot._slot < cstd c.args.stsh.now = omega (arith, c.get16-slot-end.ensures, c.loop-slot-test.true)
    in
    (next_slot c.args.stsh.now c.loop-slot.stsh c.loop-slot._slot c.loop-slot.place c.loop-slot.invariant
    c.requires.slots low).within

pub skip_slot-requires-clause-slot : goal.skip_slot-requires-clause-slot
skip_slot-requires-clause-slot c =
    let low : c.loop-slot._slot < cstd c.args.stsh.now = omega (arith, c.get16-slot-end.ensures, c.loop-slot-test.true)
    in
    subst (λ b. IsSlotAt c.loop-slot.stsh b c.loop-slot.place) (sym c.get16-base.ensures)
    (next_slot c.args.stsh.now c.loop-slot.stsh c.loop-slot._slot c.loop-slot.place c.loop-slot.invariant
    c.requires.slots low)

pub loop-slot-preserved : goal.loop-slot-preserved
loop-slot-preserved c =
    let low : c.loop-slot._slot < cstd c.args.stsh.now = omega (arith, c.get16-slot-end.ensures, c.loop-slot-test.true)
    in
    slots_more c.args.stsh.now c.loop-slot.stsh c.skip_slot.new.stsh c.loop-slot._slot c.loop-slot.place
    c.next_place-next.result c.loop-slot.invariant c.requires.slots low c.next_place-next.ensures.next
    (subst (λ b. PutsSlot b c.loop-slot.place c.loop-slot.stsh c.skip_slot.new.stsh) c.get16-base.ensures
    c.skip_slot.ensures)

pub returns : goal.returns
returns c =
    slots_all c.args.stsh.now c.loop-slot.stsh c.loop-slot._slot c.loop-slot.place c.loop-slot.invariant
    c.requires.stshif c.requires.slots (omega (arith, c.get16-slot-end.ensures, c.loop-slot-test.false))
