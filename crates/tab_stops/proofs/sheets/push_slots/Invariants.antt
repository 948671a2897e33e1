use Rattle.std.proofs.Common.{◌≡◌}
use Rattle.style_sheet.specs.Stsh.{std_base, slot_place}
use Rattle.tab_stops.specs.Lists.{AreJoinedStops, PushesStops}
use Rattle.tab_stops.specs.Sheets.{AreSlotStops}
use Rattle.tab_stops.proofs.sheets.push_slots.Given as goal

-- the first slots were gone through
abbrev pub invariant-loop-istd : goal.invariant-loop-istd
invariant-loop-istd l = record {
  place : l.place ≡ slot_place l.part l._istd;
  stops : PushesStops (AreJoinedStops
      (λ istd here. AreSlotStops l.part l.at (std_base l.part) (slot_place l.part istd) here) l._istd)
      l.fn.places.items l.places.items;
}
