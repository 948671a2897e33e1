use Rattle.std.proofs.Common.{◌≡◌, ℕ, ◌<◌, None}
use Rattle.doc_bits.specs.Rules.{LeastOrNone, Among}
use Rattle.style_sheet.specs.StyleDefinition.{HasAcceptedLists}
use Rattle.style_sheet.specs.Stsh.{slot_place, std_base, std_of, HasStyleFault}
use Rattle.style_sheet.proofs.reading.wrong_list.Given as goal

-- the least fault in the slots so far
abbrev pub invariant-loop-slot : goal.invariant-loop-slot
invariant-loop-slot l = record {
  place : l.place ≡ slot_place l.part l._slot;
  least : LeastOrNone (Among l._slot (HasStyleFault l.part l.at)) l.least;
  accepted : l.least ≡ None → (k : ℕ) → k < l._slot → HasAcceptedLists (std_of l.part k) (std_base l.part);
}
