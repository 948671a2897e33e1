-- The places and the slots of a session are together after each edit.
use Rattle.std.specs.Prelude.{slice_get, slice_range, ℕ, List}
use Rattle.std.specs.List.{AllZip, splice, drop-map, take-map}
use Rattle.std.specs.FinMap.{get}
use Rattle.std.proofs.Common.{◌≡◌, ◌∙◌, ◌++◌, ◌∷◌, ◌+◌, ◌-◌, ◌≤◌, [], refl, sym, ap, subst, inl, inr, zero, suc, Bool}
use Rattle.std.proofs.Common.{Option, Some, None, length, map, take, drop, arith}
use Rattle.std.proofs.lemmas.Option.{same_Some, none-some}
use Rattle.std.proofs.lemmas.List.{length-map, length-append, take-append-drop, map-append}
use Rattle.std.proofs.lemmas.List.{take-append-le, drop-append-le, drop-drop, append_assoc}
use Rattle.prop_map.specs.Modifiers.{character_value, mark_value, IsComposed}
use Rattle.prop_map.specs.Modifiers.{mark_style}
use Rattle.prop_map.specs.declared.modifiers.Modifier.{Modifier}
use Rattle.prop_map.proofs.Public.{acts_in_turn}
use Rattle.piece_table.specs.Piece.{UnitPlace}
use Rattle.piece_table.specs.Changes.{IsModifiedPlace}
use Rattle.doc_model.specs.declared.item.Item.{Item}
use Rattle.doc_model.specs.declared.item.Mark.{Mark}
use Rattle.save_laws.specs.Slots.{shown, loose, last, Slot, note_slots, head_slots, last_slots, document_slots}
use Rattle.save_laws.specs.Slots.{IsPlaceForSlot}
use Rattle.save_laws.specs.FastSaves.{StandsInEither, IsGivenBy}
use Rattle.doc_bits.specs.Together.{AreTogether}
use Rattle.save_laws.specs.Places.{PagedStream, GivenUnit, given_of, IsMarkedAfter, IsGivenAfter}
use Rattle.save_laws.specs.Sessions.{IsSlotAfter, SplicesStayTogether}
use Rattle.save_laws.specs.Sessions.{ModifiedStayTogether, LongerPlansKeep, MainSplices}
use Rattle.doc_bits.proofs.Public.{in_front, Beside, together_joined, together_take, together_drop}

pub splices_stay_together : SplicesStayTogether
splices_stay_together old plan places fresh slots fresh_slots from to order within together more =
    let P : UnitPlace → Slot → Type 0 = IsPlaceForSlot (StandsInEither old plan) (IsGivenBy old plan) in
    together_joined P (take from places) (take from slots) (fresh ++ drop to places) (fresh_slots ++ drop to slots)
    (together_take P from places slots together)
    (together_joined P fresh fresh_slots (drop to places) (drop to slots) more
    (together_drop P to places slots together))

-- ---- a modifier more

mark_after : (first by made : Modifier) (before old new : Option Mark) → IsComposed first by made →
    IsMarkedAfter first before old → IsMarkedAfter by old new → IsMarkedAfter made before new
mark_after first by made None None None composed one next = tt
mark_after first by made None None (Some new) composed one next = absurd next
mark_after first by made None (Some old) new composed one next = absurd one
mark_after first by made (Some before) None new composed one next = absurd one
mark_after first by made (Some before) (Some old) None composed one next = absurd next
mark_after first by made (Some before) (Some old) (Some new) composed one next =
    let turn = acts_in_turn first by made composed in (
      next.0 ∙ (ap (mark_style by) one.0 ∙ sym (turn.style before.istd)),
      λ code. next.1 code ∙ (ap (mark_value by code) (one.1 code) ∙ sym (turn.marks code (get before.pap code))),
    )

given_after : (first by made : Modifier) (before old new : GivenUnit) → IsComposed first by made →
    IsGivenAfter first before old → IsGivenAfter by old new → IsGivenAfter made before new
given_after first by made before old new composed one next =
    let turn = acts_in_turn first by made composed in
    record {
      unit = next.unit ∙ one.unit;
      characters = λ code.
          next.characters code ∙ (ap (character_value by code) (one.characters code)
          ∙ sym (turn.characters code (get before.chp code)));
      mark = mark_after first by made before.mark old.mark new.mark composed one.mark next.mark;
    }

slot_after : (Stands : ℕ → Bool → Type 0) (Gives : ℕ → Bool → GivenUnit → Type 0) (by : Modifier)
    (place made : UnitPlace) (slot after : Slot) → IsPlaceForSlot Stands Gives place slot → IsModifiedPlace by place
    made →
    IsSlotAfter by slot after → IsPlaceForSlot Stands Gives made after
slot_after Stands Gives by place made (shown old) (shown new) placed is changed =
    let gives : Gives made.at made.wide placed.before =
    subst (λ at. Gives at made.wide placed.before) (sym is.at)
    (subst (λ wide. Gives place.at wide placed.before) (sym is.wide) placed.gives) in
    record {
      before = placed.before;
      gives = gives;
      after =
          given_after place.modifier by made.modifier placed.before (given_of old)
          (given_of new) is.modifier placed.after
          changed;
    }
slot_after Stands Gives by place made (shown old) loose placed is changed = absurd changed
slot_after Stands Gives by place made (shown old) last placed is changed = absurd changed
slot_after Stands Gives by place made loose (shown new) placed is changed = absurd changed
slot_after Stands Gives by place made loose last placed is changed = absurd changed
slot_after Stands Gives by place made last (shown new) placed is changed = absurd changed
slot_after Stands Gives by place made last loose placed is changed = absurd changed
slot_after Stands Gives by place made loose loose placed is changed = record {
  given = placed.given;
  unit = placed.unit;
  marked = placed.marked;
  gives =
      subst (λ at. Gives at made.wide placed.given) (sym is.at)
      (subst (λ wide. Gives place.at wide placed.given) (sym is.wide) placed.gives);
}
slot_after Stands Gives by place made last last placed is changed =
    subst (λ at. Stands at made.wide) (sym is.at) (subst (λ wide. Stands place.at wide) (sym is.wide) placed)

-- lists whose elements are related place by place
zip_len : {A B : Type 0} (R : A → B → Type 0) (xs : List A) (ys : List B) → AllZip R xs ys → length xs ≡ length ys
zip_len R [] [] zipped = refl
zip_len R [] (y ∷ ys) zipped = absurd zipped
zip_len R (x ∷ xs) [] zipped = absurd zipped
zip_len R (x ∷ xs) (y ∷ ys) zipped = ap suc (zip_len R xs ys zipped.1)

-- what is beside an element of the changed list in the old one
pub zip_before : {A B : Type 0} (R : A → B → Type 0) (xs : List A) (ys : List B) (k : ℕ) (y : B) → AllZip R xs ys →
    slice_get ys k ≡ Some y → Beside R xs k y
zip_before R [] [] k y zipped here = absurd (none-some y here)
zip_before R [] (z ∷ ys) k y zipped here = absurd zipped
zip_before R (x ∷ xs) [] k y zipped here = absurd zipped
zip_before R (x ∷ xs) (z ∷ ys) zero y zipped here =
    record { other = x; here = refl; is = subst (R x) (same_Some z y here) zipped.0 }
zip_before R (x ∷ xs) (z ∷ ys) (suc k) y zipped here =
    let found = zip_before R xs ys k y zipped.1 here in
    record { other = found.other; here = found.here; is = found.is }

pub zipped_together : (P : UnitPlace → Slot → Type 0) (by : Modifier) (places made : List UnitPlace)
    (slots after : List Slot) →
    ((place new : UnitPlace) (slot changed : Slot) → P place slot → IsModifiedPlace by place new →
    IsSlotAfter by slot changed → P new changed) → AreTogether P places slots →
    AllZip (IsModifiedPlace by) places made →
    AllZip (IsSlotAfter by) slots after → AreTogether P made after
zipped_together P by places made slots after step together one other = record {
  len =
      omega
      (arith, together.len, zip_len (IsModifiedPlace by) places made one, zip_len (IsSlotAfter by) slots after other);
  each = λ k new changed here there.
      let a = zip_before (IsModifiedPlace by) places made k new one here in
      let b = zip_before (IsSlotAfter by) slots after k changed other there in
      step a.other new b.other changed (together.each k a.other b.other a.here b.here) a.is b.is;
}

-- a list is its three parts
pub in_parts : {A : Type 0} (xs : List A) (from to : ℕ) → from ≤ to →
    take from xs ++ (slice_range xs from to ++ drop to xs) ≡ xs
in_parts xs from to order =
    let width : from + (to - from) ≡ to = omega arith in
    let rest : drop to xs ≡ drop (to - from) (drop from xs) =
    sym (drop-drop (to - from) from xs ∙ ap (λ n. drop n xs) width) in
    ap (λ l. take from xs ++ (slice_range xs from to ++ l)) rest
    ∙ (ap (λ l. take from xs ++ l) (take-append-drop (to - from) (drop from xs)) ∙ take-append-drop from xs)

pub modified_stay_together : ModifiedStayTogether
modified_stay_together old plan by from to places made slots after order within together modified changed =
    let Stands : ℕ → Bool → Type 0 = StandsInEither old plan in
    let Gives : ℕ → Bool → GivenUnit → Type 0 = IsGivenBy old plan in
    let P : UnitPlace → Slot → Type 0 = IsPlaceForSlot Stands Gives in
    let middle : AreTogether P (slice_range places from to) (slice_range slots from to) =
    together_take P (to - from) (drop from places) (drop from slots) (together_drop P from places slots together) in
    let moved =
    zipped_together P by (slice_range places from to) (slice_range made from to) (slice_range slots from to)
    (slice_range after from to) (slot_after Stands Gives by) middle modified.modified changed.modified in
    let front : AreTogether P (take from made) (take from after) =
    subst (λ l. AreTogether P l (take from after)) (sym modified.before)
    (subst (AreTogether P (take from places)) (sym changed.before) (together_take P from places slots together)) in
    let back : AreTogether P (drop to made) (drop to after) =
    subst (λ l. AreTogether P l (drop to after)) (sym modified.after)
    (subst (AreTogether P (drop to places)) (sym changed.after) (together_drop P to places slots together)) in
    let joined =
    together_joined P (take from made) (take from after) (slice_range made from to ++ drop to made)
    (slice_range after from to ++ drop to after) front
    (together_joined P (slice_range made from to) (slice_range after from to) (drop to made)
    (drop to after) moved back) in
    subst (λ l. AreTogether P l after) (in_parts made from to order)
    (subst (AreTogether P (take from made ++ (slice_range made from to ++ drop to made)))
    (in_parts after from to order) joined)

-- ---- a longer plan

longer_stands : (old : PagedStream) (base : ℕ) (added more : List GivenUnit) (at : ℕ) (wide : Bool) →
    StandsInEither old (record { base = base; added = added }) at wide →
    StandsInEither old (record { base = base; added = added ++ more }) at wide
longer_stands old base added more at wide (inl stands) = inl stands
longer_stands old base added more at wide (inr planned) =
    let below = planned.below in
    inr (record {
      number = planned.number;
      below = omega (arith, below, length-append added more);
      here = planned.here;
      two_bytes = planned.two_bytes;
    })

longer_gives : (old : PagedStream) (base : ℕ) (added more : List GivenUnit) (at : ℕ) (wide : Bool) (given : GivenUnit) →
    IsGivenBy old (record { base = base; added = added }) at wide given →
    IsGivenBy old (record { base = base; added = added ++ more }) at wide given
longer_gives old base added more at wide given (inl gives) = inl gives
longer_gives old base added more at wide given (inr planned) =
    inr (record {
      number = planned.number;
      there = in_front added more planned.number given planned.there;
      here = planned.here;
      two_bytes = planned.two_bytes;
    })

longer_placed : (old : PagedStream) (base : ℕ) (added more : List GivenUnit) (place : UnitPlace) (slot : Slot) →
    IsPlaceForSlot (StandsInEither old (record { base = base; added = added }))
    (IsGivenBy old (record { base = base; added = added })) place slot →
    IsPlaceForSlot (StandsInEither old (record { base = base; added = added ++ more }))
    (IsGivenBy old (record { base = base; added = added ++ more })) place slot
longer_placed old base added more place (shown item) placed = record {
  before = placed.before;
  gives = longer_gives old base added more place.at place.wide placed.before placed.gives;
  after = placed.after;
}
longer_placed old base added more place loose placed = record {
  given = placed.given;
  unit = placed.unit;
  marked = placed.marked;
  gives = longer_gives old base added more place.at place.wide placed.given placed.gives;
}
longer_placed old base added more place last placed = longer_stands old base added more place.at place.wide placed

pub longer_plans_keep : LongerPlansKeep
longer_plans_keep old base added more places slots together = record {
  len = together.len;
  each =
      λ k place slot here there. longer_placed old base added more place slot (together.each k place slot here there);
}

-- ---- the main text

-- a splice within the first of two lists
pub splice_front : {A : Type 0} (xs ys zs : List A) (from to : ℕ) → from ≤ to → to ≤ length xs →
    splice xs from to zs ++ ys ≡ splice (xs ++ ys) from to zs
splice_front xs ys zs from to order within =
    let a : take from (xs ++ ys) ≡ take from xs = take-append-le from xs ys (omega (arith, order, within)) in
    let b : drop to (xs ++ ys) ≡ drop to xs ++ ys = drop-append-le to xs ys within in
    append_assoc (take from xs) (zs ++ drop to xs) ys
    ∙ (ap (λ l. take from xs ++ l) (append_assoc zs (drop to xs) ys)
    ∙ (ap (λ l. l ++ (zs ++ (drop to xs ++ ys))) (sym a) ∙ ap (λ l. take from (xs ++ ys) ++ (zs ++ l)) (sym b)))

pub map_splice : (items fresh : List Item) (from to : ℕ) →
    map shown (splice items from to fresh) ≡ splice (map shown items) from to (map shown fresh)
map_splice items fresh from to =
    map-append shown (take from items) (fresh ++ drop to items)
    ∙ (ap (λ l. map shown (take from items) ++ l) (map-append shown fresh (drop to items))
    ∙ (ap (λ l. l ++ (map shown fresh ++ map shown (drop to items))) (sym (take-map shown from items))
    ∙ ap (λ l. take from (map shown items) ++ (map shown fresh ++ l)) (sym (drop-map shown to items))))

pub main_splices : MainSplices
unfolding document_slots
main_splices document ends from to fresh order within =
    let notes = note_slots document ends in
    let heads = head_slots document ends in
    let rest = notes ++ (heads ++ last_slots (notes ++ heads)) in
    ap (λ l. l ++ rest) (map_splice document.main fresh from to)
    ∙ splice_front (map shown document.main) rest (map shown fresh) from to order
    (omega (arith, within, length-map document.main shown))
