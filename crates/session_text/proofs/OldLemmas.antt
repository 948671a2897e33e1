-- The old units of a text stay bounded: fresh places are in added text, and a modifier makes no mark.
use Rattle.std.specs.Prelude.{slice_get, slice_range, is_some}
use Rattle.std.proofs.Common.{◌≡◌, ◌∙◌, ◌++◌, ◌+◌, ◌-◌, ◌*◌, ◌<◌, ◌≤◌, ℕ, zero, suc, List, Bool, true, false}
use Rattle.std.proofs.Common.{Option, Some, None, refl, sym, ap, subst, length, map, take, drop, arith}
use Rattle.std.proofs.lemmas.List.{length-map}
use Rattle.std.proofs.lemmas.Option.{same_Some, none-some, slice_get_within, get_or_from_slice_get}
use Rattle.doc_bits.specs.Together.{AreTogether}
use Rattle.doc_bits.proofs.Public.{there_is, get-map, together_joined, together_take, together_drop}
use Rattle.prop_map.specs.declared.modifiers.Modifier.{Modifier}
use Rattle.prop_map.specs.Modifiers.{no_modifier}
use Rattle.piece_table.specs.Piece.{TextPiece, UnitPlace, places_of_piece, unit_bytes}
use Rattle.piece_table.specs.Changes.{fresh_places, IsModifiedPlace, AreModified}
use Rattle.piece_table.proofs.Public.{length-unit_places, get_or-unit_places}
use Rattle.doc_model.specs.declared.item.Mark.{Mark}
use Rattle.save_laws.specs.Places.{PagedStream, IsMarkedAfter}
use Rattle.save_laws.specs.Sessions.{IsSlotAfter, AreSlotsAfter}
use Rattle.save_laws.specs.Slots.{Slot, shown, loose, last}
use Rattle.save_laws.specs.ByRuns.{IsBounded, slot_end}
use Rattle.save_laws.proofs.Public.{zipped_together, in_parts}
use Rattle.session_text.specs.AddedText.{added_piece}
use Rattle.session_text.specs.OldUnits.{IsOldBounded}

-- ---- fresh places

-- the units of a piece in added text
pub new_units : (stream : PagedStream) (base : ℕ) (piece : TextPiece) (slots : List Slot) → base ≤ piece.at →
    piece.len ≡ length slots → AreTogether (IsOldBounded stream base) (places_of_piece piece) slots
new_units stream base piece slots above len = record {
  len = length-unit_places piece ∙ len;
  each = λ k place slot here there before end is.
      let below : k < piece.len =
      omega (arith, slice_get_within (places_of_piece piece) k place here, length-unit_places piece) in
      let at : place.at ≡ piece.at + k * unit_bytes piece.wide =
      ap (λ (p : UnitPlace). p.at)
      (sym (get_or_from_slice_get (places_of_piece piece) k place place here) ∙ get_or-unit_places piece k place below)
      in
      absurd (not_low piece.wide k place.at at before);
}
  where
    not_low : (wide : Bool) (k at : ℕ) → at ≡ piece.at + k * unit_bytes wide → at < base → ⊥
    not_low true k at is low = omega (arith, is, low, above)
    not_low false k at is low = omega (arith, is, low, above)

pub fresh_old : (stream : PagedStream) (base at n : ℕ) (slots : List Slot) → base ≤ at → n ≡ length slots →
    AreTogether (IsOldBounded stream base) (fresh_places (added_piece at n)) slots
fresh_old stream base at zero slots above len =
    record { len = len; each = λ k place slot here there. absurd (none-some place here) }
fresh_old stream base at (suc n) slots above len =
    new_units stream base (record { at = at; wide = true; len = suc n; modifier = no_modifier }) slots above len

-- ---- splices

pub spliced_old : (stream : PagedStream) (base : ℕ) (places fresh : List UnitPlace) (slots fresh_slots : List Slot)
    (from to : ℕ) → AreTogether (IsOldBounded stream base) places slots →
    AreTogether (IsOldBounded stream base) fresh fresh_slots →
    AreTogether (IsOldBounded stream base) (take from places ++ (fresh ++ drop to places))
    (take from slots ++ (fresh_slots ++ drop to slots))
spliced_old stream base places fresh slots fresh_slots from to together more =
    let P : UnitPlace → Slot → Type 0 = IsOldBounded stream base in
    together_joined P (take from places) (take from slots) (fresh ++ drop to places) (fresh_slots ++ drop to slots)
    (together_take P from places slots together)
    (together_joined P fresh fresh_slots (drop to places) (drop to slots) more
    (together_drop P to places slots together))

-- slots that end paragraphs alike
pub alike_old : (stream : PagedStream) (base : ℕ) (places : List UnitPlace) (one other : List Slot) →
    map slot_end other ≡ map slot_end one → AreTogether (IsOldBounded stream base) places one →
    AreTogether (IsOldBounded stream base) places other
alike_old stream base places one other same together =
    let count : length other ≡ length one =
    sym (length-map other slot_end) ∙ (ap length same ∙ length-map one slot_end) in
    record {
      len = together.len ∙ sym count;
      each = λ k place slot here there before end is.
          let within = slice_get_within other k slot there in
          let found = there_is one k (omega (arith, within, count)) in
          let e : slot_end found.0 ≡ slot_end slot =
          same_Some (slot_end found.0) (slot_end slot)
          (sym (get-map slot_end one k found.0 found.1)
          ∙ (ap (λ l. slice_get l k) (sym same) ∙ get-map slot_end other k slot there)) in
          together.each k place found.0 here found.1 before end (e ∙ is);
    }

-- ---- modifiers

mark_stays : (by : Modifier) (old new : Option Mark) → IsMarkedAfter by old new → is_some new ≡ is_some old
mark_stays by None None after = refl
mark_stays by None (Some new) after = absurd after
mark_stays by (Some old) None after = absurd after
mark_stays by (Some old) (Some new) after = refl

end_stays : (by : Modifier) (old new : Slot) → IsSlotAfter by old new → slot_end new ≡ slot_end old
end_stays by (shown old) (shown new) after = ap Some (mark_stays by old.mark new.mark after.mark)
end_stays by (shown old) loose after = absurd after
end_stays by (shown old) last after = absurd after
end_stays by loose (shown new) after = absurd after
end_stays by loose loose after = refl
end_stays by loose last after = absurd after
end_stays by last (shown new) after = absurd after
end_stays by last loose after = absurd after
end_stays by last last after = refl

one_modified : (stream : PagedStream) (base : ℕ) (by : Modifier) (place new : UnitPlace) (slot changed : Slot) →
    IsOldBounded stream base place slot → IsModifiedPlace by place new → IsSlotAfter by slot changed →
    IsOldBounded stream base new changed
one_modified stream base by place new slot changed old is after before end ends =
    let at = is.at in
    let bounded = old (omega (arith, at, before)) end (sym (end_stays by slot changed after) ∙ ends) in
    subst (λ n. IsBounded stream n new.wide end) (sym is.at)
    (subst (λ w. IsBounded stream place.at w end) (sym is.wide) bounded)

pub modified_old : (stream : PagedStream) (base : ℕ) (by : Modifier) (from to : ℕ) (places made : List UnitPlace)
    (slots after : List Slot) → from ≤ to → AreTogether (IsOldBounded stream base) places slots →
    AreModified by from to places made → AreSlotsAfter by from to slots after →
    AreTogether (IsOldBounded stream base) made after
modified_old stream base by from to places made slots after order together modified changed =
    let P : UnitPlace → Slot → Type 0 = IsOldBounded stream base in
    let middle : AreTogether P (slice_range places from to) (slice_range slots from to) =
    together_take P (to - from) (drop from places) (drop from slots) (together_drop P from places slots together) in
    let moved =
    zipped_together P by (slice_range places from to) (slice_range made from to) (slice_range slots from to)
    (slice_range after from to) (one_modified stream base by) middle modified.modified changed.modified in
    let front : AreTogether P (take from made) (take from after) =
    subst (λ l. AreTogether P l (take from after)) (sym modified.before)
    (subst (AreTogether P (take from places)) (sym changed.before) (together_take P from places slots together)) in
    let back : AreTogether P (drop to made) (drop to after) =
    subst (λ l. AreTogether P l (drop to after)) (sym modified.after)
    (subst (AreTogether P (drop to places)) (sym changed.after) (together_drop P to places slots together)) in
    let joined =
    together_joined P (take from made) (take from after) (slice_range made from to ++ drop to made)
    (slice_range after from to ++ drop to after) front
    (together_joined P (slice_range made from to) (slice_range after from to) (drop to made)
    (drop to after) moved back) in
    subst (λ l. AreTogether P l after) (in_parts made from to order)
    (subst (AreTogether P (take from made ++ (slice_range made from to ++ drop to made))) (in_parts after from to order)
    joined)
