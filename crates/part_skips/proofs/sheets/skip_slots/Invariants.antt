use Rattle.part_skips.proofs.SheetLemmas.{SlotsFront}
use Rattle.part_skips.proofs.sheets.skip_slots.Given as goal

abbrev pub invariant-loop-slot : goal.invariant-loop-slot
invariant-loop-slot l = SlotsFront l.fn.stsh l.stsh l._slot l.place
