use Rattle.std.proofs.Common.{◌≡◌, ℕ, ◌-◌, ◌<◌, ◌≤◌, length}
use Rattle.style_sheet.specs.Sheet.{style_at}
use Rattle.style_sheet.specs.Stsh.{slot_place, stshi_words, SpellsSlot}
use Rattle.style_sheet.proofs.reading.read_slots.Given as goal

-- the slots so far spell the styles of the sheet
abbrev pub invariant-loop-slot : goal.invariant-loop-slot
invariant-loop-slot l = record {
  some : 1 ≤ l._slot;
  place : l.place ≡ slot_place l.part (l._slot - 1);
  head : l.sheet.head ≡ stshi_words l.part;
  count : length l.sheet.styles ≡ l._slot;
  styles : (k : ℕ) → k < l._slot → SpellsSlot l.part k (style_at l.sheet k);
}
