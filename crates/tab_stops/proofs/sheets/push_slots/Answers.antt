use Rattle.std.proofs.Common.{arith}
use Rattle.style_sheet.specs.Stsh.{cstd, std_base, slot_place}
use Rattle.tab_stops.specs.Sheets.{AreSlotStops}
use Rattle.tab_stops.proofs.ListLemmas.{joined_all, joined_more}
use Rattle.tab_stops.proofs.SheetLemmas.{next_slot, slot_here}
use Rattle.tab_stops.proofs.sheets.push_slots.Goals as goal

pub loop-istd-preserved : goal.loop-istd-preserved
loop-istd-preserved c =
    let part = c.args.part.now in
    let istd = c.loop-istd._istd in
    let inv = c.loop-istd.invariant in
    record {
      place = next_slot part istd c.loop-istd.place c.next_place-place.result inv.place c.next_place-place.ensures.next;
      stops = joined_more (λ k here. AreSlotStops part c.args.at (std_base part) (slot_place part k) here) istd
          c.args.places.now.items c.loop-istd.places.items c.push_slot.new.places.items inv.stops
          (slot_here part c.args.at c.get16-base.result c.loop-istd.place istd c.loop-istd.places.items
          c.push_slot.new.places.items c.get16-base.ensures inv.place c.in_ok-push_slot.ensures);
    }

pub returns : goal.returns
returns c =
    let part = c.args.part.now in
    joined_all (λ k here. AreSlotStops part c.args.at (std_base part) (slot_place part k) here) c.loop-istd._istd
    (cstd part) c.args.places.now.items c.loop-istd.places.items
    (omega (arith, c.get16-istd-end.ensures, c.loop-istd-test.false, c.loop-istd.auto._istd-end))
    c.loop-istd.invariant.stops
