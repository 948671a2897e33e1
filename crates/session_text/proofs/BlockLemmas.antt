-- Blocks of added text represent the slots that their items were added for.
use Rattle.std.specs.Prelude.{slice_get, List, ℕ, replicate}
use Rattle.std.specs.FinMap.{get}
use Rattle.std.proofs.Common.{◌≡◌, ◌∙◌, ◌++◌, ◌∷◌, ◌+◌, ◌*◌, ◌<◌, [], refl, sym, ap, subst, zero, suc, inr}
use Rattle.std.proofs.Common.{Bool, true, false}
use Rattle.std.proofs.Common.{Some, length, map, arith}
use Rattle.std.proofs.lemmas.List.{length-map}
use Rattle.std.proofs.lemmas.Option.{slice_get_within, same_Some, none-some, get_or_from_slice_get}
use Rattle.doc_bits.specs.Together.{AreTogether}
use Rattle.std.specs.Prelude.{IsSome}
use Rattle.doc_bits.proofs.Public.{there_is, get-map, in_front, in_back, together_joined}
use Rattle.prop_map.specs.Modifiers.{no_modifier}
use Rattle.piece_table.specs.Piece.{TextPiece, UnitPlace, places_of_piece}
use Rattle.piece_table.proofs.Public.{length-unit_places, get_or-unit_places}
use Rattle.doc_model.specs.declared.item.Item.{Item}
use Rattle.full_save.specs.Text.{extra_mark}
use Rattle.save_laws.specs.Places.{PagedStream, given_of, IsGivenAfter}
use Rattle.save_laws.specs.Plans.{Plan}
use Rattle.save_laws.specs.Slots.{Slot, shown, loose, last, IsPlaceForSlot}
use Rattle.save_laws.specs.FastSaves.{StandsInEither, IsGivenBy}
use Rattle.save_laws.specs.Sessions.{StandInSession}
use Rattle.session_text.specs.declared.added.Added.{Added}
use Rattle.session_text.specs.AddedText.{plan_of, IsAddedFor, marked_block}
use Rattle.session_text.specs.Blocks.{BlocksStand}
use Rattle.session_text.specs.StoryMarks.{marks_come}
use Rattle.save_laws.proofs.Public.{given_after}

-- ---- a place without a modifier

abbrev place_at : ℕ → UnitPlace
place_at at = record { at = at; wide = true; modifier = no_modifier }

-- an added item's place is one for its slot
placed : (old : PagedStream) (plan : Plan) (number : ℕ) (item : Item) (slot : Slot) →
    slice_get plan.added number ≡ Some (given_of item) → IsAddedFor item slot →
    IsPlaceForSlot (StandsInEither old plan) (IsGivenBy old plan) (place_at (plan.base + 2 * number)) slot
placed old plan number item (shown other) there is = record {
  before = given_of item;
  gives = inr (record { number = number; there = there; here = refl; two_bytes = refl });
  after = subst (λ i. IsGivenAfter no_modifier (given_of item) (given_of i)) is (given_after (given_of item));
}
placed old plan number item loose there is = record {
  given = given_of item;
  unit = ap (λ i. i.unit) is;
  marked = subst (λ (i : Item). IsSome i.mark) (sym is) refl;
  gives = inr (record { number = number; there = there; here = refl; two_bytes = refl });
}
placed old plan number item last there is =
    inr (record {
      number = number;
      below = slice_get_within plan.added number (given_of item) there;
      here = refl;
      two_bytes = refl;
    })

-- ---- the places of a block

piece_places : (old : PagedStream) (added : Added) (before block behind : List Item) (slots : List Slot) →
    added.items ≡ before ++ (block ++ behind) → AreTogether IsAddedFor block slots →
    StandInSession old (plan_of added)
    (places_of_piece (record {
      at = added.base + 2 * length before;
      wide = true;
      len = length block;
      modifier = no_modifier;
    }))
    slots
piece_places old added before block behind slots is together =
    let begin : ℕ = added.base + 2 * length before in
    let piece : TextPiece = record { at = begin; wide = true; len = length block; modifier = no_modifier } in
    let count = length-unit_places piece in
    let plan : Plan = plan_of added in
    record {
      len = omega (arith, count, together.len);
      each = λ k place slot here there.
          let within = slice_get_within (places_of_piece piece) k place here in
          let below : k < length block = omega (arith, within, count) in
          let found = there_is block k below in
          let number : ℕ = length before + k in
          let e : begin + k * 2 ≡ added.base + 2 * number = omega arith in
          let where_is : place ≡ place_at (added.base + 2 * number) =
          sym (get_or_from_slice_get (places_of_piece piece) k place place here)
          ∙ (get_or-unit_places piece k place below ∙ ap place_at e) in
          let item : slice_get added.items number ≡ Some found.0 =
          ap (λ l. slice_get l number) is
          ∙ in_back before (block ++ behind) k number found.0 (in_front block behind k found.0 found.1) refl in
          subst (λ p. IsPlaceForSlot (StandsInEither old plan) (IsGivenBy old plan) p slot) (sym where_is)
          (placed old plan number found.0 slot (get-map given_of added.items number found.0 item)
          (together.each k found.0 slot found.1 there));
    }

pub blocks_stand : BlocksStand
blocks_stand old added before [] behind [] is together =
    record { len = refl; each = λ k place slot here there. absurd (none-some place here) }
blocks_stand old added before [] behind (slot ∷ slots) is together = absurd (omega (arith, together.len))
blocks_stand old added before (item ∷ block) behind slots is together =
    piece_places old added before (item ∷ block) behind slots is together

-- ---- the slots of a block

-- items are added for the slots that show them
pub items_added : (items : List Item) → AreTogether IsAddedFor items (map shown items)
items_added items = record {
  len = sym (length-map items shown);
  each = λ k item slot here there.
      let shows : shown item ≡ slot =
      same_Some (shown item) slot (sym (get-map shown items k item here) ∙ there) in
      subst (IsAddedFor item) shows refl;
}

pub none_added : AreTogether IsAddedFor [] []
none_added = record { len = refl; each = λ k item slot here there. absurd (none-some slot there) }

one_each : (slot : Slot) → IsAddedFor extra_mark slot → (k : ℕ) (item : Item) (other : Slot) →
    slice_get (extra_mark ∷ []) k ≡ Some item → slice_get (slot ∷ []) k ≡ Some other → IsAddedFor item other
one_each slot is zero item other here there =
    subst (IsAddedFor item) (same_Some slot other there)
    (subst (λ i. IsAddedFor i slot) (same_Some extra_mark item here) is)
one_each slot is (suc k) item other here there = absurd (none-some other there)

one_added : (slot : Slot) → IsAddedFor extra_mark slot → AreTogether IsAddedFor (extra_mark ∷ []) (slot ∷ [])
one_added slot is = record { len = refl; each = one_each slot is }

two_added : AreTogether IsAddedFor (extra_mark ∷ extra_mark ∷ []) (loose ∷ last ∷ [])
two_added =
    together_joined IsAddedFor (extra_mark ∷ []) (loose ∷ []) (extra_mark ∷ []) (last ∷ []) (one_added loose refl)
    (one_added last tt)

-- marks are added for the slots that come behind the first items of a story
pub marks_added : (end : Bool) (items new : List Item) (other : List Slot) →
    AreTogether IsAddedFor (replicate (length (marks_come end items new other)) extra_mark)
    (marks_come end items new other)
marks_added end [] [] other = none_added
marks_added true [] (y ∷ ys) other = none_added
marks_added false [] (y ∷ ys) [] = two_added
marks_added false [] (y ∷ ys) (slot ∷ slots) = one_added loose refl
marks_added end (x ∷ xs) new other = none_added

-- a block of items with the marks behind them
pub block_added : (end : Bool) (items new fresh : List Item) (other : List Slot) →
    AreTogether IsAddedFor (marked_block fresh (length (marks_come end items new other)))
    (map shown fresh ++ marks_come end items new other)
block_added end items new fresh other =
    together_joined IsAddedFor fresh (map shown fresh)
    (replicate (length (marks_come end items new other)) extra_mark) (marks_come end items new other)
    (items_added fresh) (marks_added end items new other)
