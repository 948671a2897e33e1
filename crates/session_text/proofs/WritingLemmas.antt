-- Pieces that are written again represent the slots that they represented.
use Rattle.std.specs.Prelude.{slice_range, is_some, List, ℕ, ◌↔◌, IsTrue, MatchOption}
use Rattle.std.specs.Option.{option_map}
use Rattle.std.specs.List.{All}
use Rattle.std.proofs.Common.{◌≡◌, ◌∙◌, ◌++◌, ◌∷◌, ◌+◌, ◌-◌, ◌*◌, ◌<◌, ◌≤◌, ◌^◌, [], refl, sym, ap}
use Rattle.std.proofs.Common.{subst, zero, suc}
use Rattle.std.proofs.Common.{inl, inr, Bool, true, false, Option, Some, None, length, map, take, drop, arith}
use Rattle.std.proofs.Common.{get_or}
use Rattle.std.proofs.lemmas.Bool.{cases_lt}
use Rattle.std.proofs.lemmas.List.{append-nil, length-append, length-map, take_all, length-take, length-drop}
use Rattle.std.proofs.lemmas.List.{take-append-drop, take-take}
use Rattle.std.specs.List.{take-map, drop-map}
use Rattle.std.proofs.lemmas.Slice.{between_is}
use Rattle.std.proofs.lemmas.List.Elements.{All-append, All-nil, All-map}
use Rattle.std.proofs.lemmas.List.Sums.{sum_by-cons, sum_by-append}
use Rattle.std.proofs.lemmas.Option.{same_Some, none-some, slice_get_within, get_or_from_slice_get}
use Rattle.doc_bits.specs.Together.{AreTogether}
use Rattle.doc_bits.proofs.Public.{All_at, All-from_slice_get, get-map, range_mid, together_joined, together_take}
use Rattle.doc_bits.proofs.Public.{together_drop}
use Rattle.doc_bits.specs.declared.places.Where.{Where}
use Rattle.doc_bits.specs.declared.places.Where.TheVariants.{Main, Note, Head}
use Rattle.prop_map.specs.declared.modifiers.Modifier.{Modifier}
use Rattle.prop_map.specs.Modifiers.{no_modifier, printed_modifier}
use Rattle.piece_table.specs.ClxRules.{FitsPages}
use Rattle.piece_table.specs.declared.pieces.Piece.{Piece}
use Rattle.piece_table.specs.Piece.{TextPiece, UnitPlace, bare_piece, piece_end, unit_bytes, places_of_piece}
use Rattle.piece_table.specs.Piece.{flat_pieces}
use Rattle.piece_table.specs.Piece.{total_length}
use Rattle.piece_table.specs.Changes.{fresh_places}
use Rattle.piece_table.proofs.Public.{flat_pieces-append, flat_pieces-cons, flat_pieces-nil, length-unit_places}
use Rattle.piece_table.proofs.Public.{length-flat_pieces, get_or-unit_places, flat_pieces-push, renewed_pieces-push}
use Rattle.piece_table.proofs.Public.{length-renewed, modifiers_there, none_fits}
use Rattle.doc_model.specs.declared.item.Item.{Item}
use Rattle.doc_model.specs.declared.document.Document.{Document}
use Rattle.plain_doc.specs.RulesOfItems.{HasShortProperties}
use Rattle.plain_doc.specs.RulesOfTexts.{text_of_place}
use Rattle.plain_doc.specs.Sound.{IsSound}
use Rattle.plain_doc.proofs.Public.{sound_is_valid}
use Rattle.doc_model.proofs.Public.{joined_all}
use Rattle.save_laws.specs.Places.{PagedStream, GivenUnit}
use Rattle.save_laws.specs.Plans.{Plan}
use Rattle.save_laws.specs.Slots.{Slot, shown, loose, last, IsPlaceForSlot, StoryEnds, document_slots}
use Rattle.save_laws.specs.Ends.{ends_of}
use Rattle.save_laws.specs.FastSaves.{StandsInEither, IsGivenBy}
use Rattle.save_laws.specs.Sessions.{StandInSession}
use Rattle.save_laws.proofs.Public.{IsShownAs, all_shown, total_more}
use Rattle.session_text.specs.declared.added.Added.{Added}
use Rattle.session_text.specs.declared.session_text.SessionText.{SessionText}
use Rattle.session_text.specs.declared.old_pieces.OldPieces.{OldPieces}
use Rattle.session_text.specs.AddedText.{plan_of, IsAddedFor, added_piece}
use Rattle.piece_table.specs.Renewals.{renewed_piece, renewed_pieces, HasRoomAt}
use Rattle.session_text.specs.WrittenAgain.{IsAmong, IsRewritten, IsChosen, renewed_units, slot_item}
use Rattle.session_text.specs.WrittenAgain.{place_if_again, len_for, values_for}
use Rattle.session_text.specs.WrittenAgain.{AreWritten, AreChosen, IsWrittenAgain, renewed_values}
use Rattle.session_text.specs.SessionText.{HaveFitModifiers, HaveNoModifiers, HaveModifiersWithin}
use Rattle.session_text.proofs.BlockLemmas.{blocks_stand}
use Rattle.session_text.proofs.PickLemmas.{renewed_values-push}
use Rattle.session_text.proofs.EditLemmas.{grown_stands}
use Rattle.session_text.specs.OldUnits.{IsOldBounded}
use Rattle.session_text.proofs.OldLemmas.{new_units}
use Rattle.session_text.proofs.GrowLemmas.{mark_short}
use Rattle.session_text.proofs.TextLemmas.{All-front, All-back, none_printed}
use Rattle.direct_props.proofs.Public.{together_one}

-- ---- old pieces

-- what is before the base is not planned, so it is beside any added text
given_before : (stream : PagedStream) (plan other : Plan) (at : ℕ) (wide : Bool) (given : GivenUnit) → at < plan.base →
    IsGivenBy stream plan at wide given → IsGivenBy stream other at wide given
given_before stream plan other at wide given before (inl gives) = inl gives
given_before stream plan other at wide given before (inr planned) =
    let here = planned.here in
    absurd (omega (arith, here, before))

stands_before : (stream : PagedStream) (plan other : Plan) (at : ℕ) (wide : Bool) → at < plan.base →
    StandsInEither stream plan at wide → StandsInEither stream other at wide
stands_before stream plan other at wide before (inl stands) = inl stands
stands_before stream plan other at wide before (inr planned) =
    let here = planned.here in
    absurd (omega (arith, here, before))

placed_before : (stream : PagedStream) (plan other : Plan) (place : UnitPlace) (slot : Slot) → place.at < plan.base →
    IsPlaceForSlot (StandsInEither stream plan) (IsGivenBy stream plan) place slot →
    IsPlaceForSlot (StandsInEither stream other) (IsGivenBy stream other) place slot
placed_before stream plan other place (shown item) before is = record {
  before = is.before;
  gives = given_before stream plan other place.at place.wide is.before before is.gives;
  after = is.after;
}
placed_before stream plan other place loose before is = record {
  given = is.given;
  unit = is.unit;
  marked = is.marked;
  gives = given_before stream plan other place.at place.wide is.given before is.gives;
}
placed_before stream plan other place last before is = stands_before stream plan other place.at place.wide before is

kept_stand : (stream : PagedStream) (plan other : Plan) (places : List UnitPlace) (slots : List Slot) →
    All (λ place. place.at < plan.base) places → StandInSession stream plan places slots →
    StandInSession stream other places slots
kept_stand stream plan other places slots before stand = record {
  len = stand.len;
  each = λ k place slot here there.
      placed_before stream plan other place slot
      (All_at (λ (p : UnitPlace). p.at < plan.base) places k place before here) (stand.each k place slot here there);
}

-- a unit of a piece that ends at the base begins before it
unit_below : (wide : Bool) (at len base k : ℕ) → at + len * unit_bytes wide ≤ base → k < len →
    at + k * unit_bytes wide < base
unit_below true at len base k end below = omega (arith, end, below)
unit_below false at len base k end below = omega (arith, end, below)

old_units : (piece : TextPiece) (base : ℕ) → piece_end (bare_piece piece) ≤ base →
    All (λ place. place.at < base) (places_of_piece piece)
old_units piece base end =
    All-from_slice_get (λ (p : UnitPlace). p.at < base) (places_of_piece piece)
    (λ k place here.
    let below : k < piece.len =
    omega (arith, slice_get_within (places_of_piece piece) k place here, length-unit_places piece) in
    let at : place.at ≡ piece.at + k * unit_bytes piece.wide =
    ap (λ (p : UnitPlace). p.at)
    (sym (get_or_from_slice_get (places_of_piece piece) k place place here) ∙ get_or-unit_places piece k place below) in
    let low = unit_below piece.wide piece.at piece.len base k end below in
    omega (arith, at, low))

-- ---- written items

-- an item is written for its slot
written_for : (slot : Slot) → IsAddedFor (slot_item slot) slot
written_for (shown item) = refl
written_for loose = refl
written_for last = tt

pub items_written : (slots : List Slot) → AreTogether IsAddedFor (map slot_item slots) slots
items_written slots = record {
  len = length-map slots slot_item;
  each = λ k item slot here there.
      let is : slot_item slot ≡ item =
      same_Some (slot_item slot) item (sym (get-map slot_item slots k slot there) ∙ here) in
      subst (λ i. IsAddedFor i slot) is (written_for slot);
}

-- the places of a piece in added text are those of its block
fresh_units : (at len : ℕ) →
    places_of_piece (record { at = at; wide = true; len = len; modifier = no_modifier }) ≡ fresh_places (added_piece at
    len)
fresh_units at zero = refl
fresh_units at (suc len) = refl

fresh_stand : (stream : PagedStream) (base : ℕ) (items : List Item) (piece : TextPiece) (slots : List Slot) →
    length slots ≡ piece.len →
    StandInSession stream (plan_of (record { base = base; items = items ++ map slot_item slots }))
    (places_of_piece (renewed_piece (Some (base + 2 * length items)) piece)) slots
fresh_stand stream base items piece slots len =
    let block : List Item = map slot_item slots in
    let new : Added = record { base = base; items = items ++ block } in
    let at : ℕ = base + 2 * length items in
    let whole : items ++ block ≡ items ++ (block ++ []) = ap (λ l. items ++ l) (sym (append-nil block)) in
    let long : length block ≡ piece.len = length-map slots slot_item ∙ len in
    let stand : StandInSession stream (plan_of new) (fresh_places (added_piece at (length block))) slots =
    blocks_stand stream new items block [] slots whole (items_written slots) in
    subst (λ places. StandInSession stream (plan_of new) places slots)
    (ap (λ n. fresh_places (added_piece at n)) long ∙ sym (fresh_units at piece.len)) stand

-- ---- one piece more

-- the slots of the next piece
pub next_slots : {A : Type 0} (xs : List A) (from to : ℕ) → from ≤ to → to ≤ length xs →
    take to xs ≡ take from xs ++ slice_range xs from to
next_slots xs from to order within =
    sym (take-append-drop from (take to xs))
    ∙ (ap (λ l. l ++ drop from (take to xs)) (take-take from to xs order)
    ∙ ap (λ l. take from xs ++ l) (sym (between_is xs from to)))

piece_in : (pieces before behind : List TextPiece) (piece : TextPiece) → pieces ≡ before ++ (piece ∷ behind) →
    slice_range (flat_pieces pieces) (total_length before) (total_length before + piece.len) ≡ places_of_piece piece
piece_in pieces before behind piece is =
    range_mid (flat_pieces pieces) (flat_pieces before) (places_of_piece piece) (flat_pieces behind) (total_length
    before)
    (total_length before + piece.len)
    (ap flat_pieces is ∙ (flat_pieces-append before (piece ∷ behind) ∙ ap (λ l. flat_pieces before ++ l)
    (flat_pieces-cons piece behind)))
    (sym (length-flat_pieces before))
    (omega (arith, length-flat_pieces before, length-unit_places piece))

together_range : {A B : Type 0} (P : A → B → Type 0) (xs : List A) (ys : List B) (from to : ℕ) → AreTogether P xs ys →
    AreTogether P (slice_range xs from to) (slice_range ys from to)
together_range P xs ys from to together =
    together_take P (to - from) (drop from xs) (drop from ys) (together_drop P from xs ys together)

renewed_units-push : (places : List (Option ℕ)) (pieces : List TextPiece) (place : Option ℕ) (piece : TextPiece) →
    length places ≡ length pieces → renewed_units (places ++ place ∷ []) (pieces ++ piece ∷ []) ≡ renewed_units
    places pieces + renewed_units (place ∷ []) (piece ∷ [])
renewed_units-push [] [] place piece len = omega arith
renewed_units-push [] (front ∷ pieces) place piece len = absurd (omega (arith, len))
renewed_units-push (first ∷ places) [] place piece len = absurd (omega (arith, len))
renewed_units-push (None ∷ places) (front ∷ pieces) place piece len =
    renewed_units-push places pieces place piece (omega (arith, len))
renewed_units-push (Some at ∷ places) (front ∷ pieces) place piece len =
    omega (arith, renewed_units-push places pieces place piece (omega (arith, len)))

pub units_few : (places : List (Option ℕ)) (pieces : List TextPiece) → renewed_units places pieces ≤ total_length pieces
units_few [] pieces = omega arith
units_few (place ∷ places) [] = omega arith
units_few (None ∷ places) (piece ∷ pieces) =
    omega (arith, units_few places pieces, sum_by-cons (λ (p : TextPiece). p.len) piece pieces)
units_few (Some at ∷ places) (piece ∷ pieces) =
    omega (arith, units_few places pieces, sum_by-cons (λ (p : TextPiece). p.len) piece pieces)

-- a piece that is written again has as many units at its new place, and no other has any
units_for : (base number : ℕ) (again : Bool) (piece : TextPiece) (slots : List Slot) → length slots ≡ piece.len →
    length (values_for again (map slot_item slots))
    ≡ renewed_units (place_if_again again (base + 2 * number) ∷ []) (piece ∷ [])
units_for base number true piece slots len = omega (arith, length-map slots slot_item, len)
units_for base number false piece slots len = refl

chosen_for : (base number : ℕ) (which : OldPieces) (again : Bool) (piece : TextPiece) →
    IsTrue again ↔ IsRewritten base which piece → IsChosen base which (place_if_again again (base + 2 * number)) piece
chosen_for base number which true piece is = (λ some. is.0 refl, λ rewritten. refl)
chosen_for base number which false piece is =
    (λ some. absurd (grind (arith, some)), λ rewritten. absurd (grind (arith, is.1 rewritten)))

room_for : (base number : ℕ) (again : Bool) (piece : TextPiece) → base + 2 * (number + piece.len) < 2 ^ 32 →
    HasRoomAt (place_if_again again (base + 2 * number)) piece
room_for base number true piece room place is =
    let at : base + 2 * number ≡ place = same_Some (base + 2 * number) place is in
    omega (arith, at, room)
room_for base number false piece room place is = absurd (none-some place is)

short_for : (again : Bool) (items : List Item) → All HasShortProperties items →
    All HasShortProperties (values_for again items)
short_for true items short = short
short_for false items short = All-nil HasShortProperties

-- a piece that is not written again ends before added text
kept_end : (base : ℕ) (which : OldPieces) (piece : TextPiece) → IsTrue false ↔ IsRewritten base which piece →
    piece_end (bare_piece piece) ≤ base
kept_end base which piece is = elim (cases_lt base (piece_end (bare_piece piece))) [
  | inl behind ↦ absurd (grind (arith, is.1 (inl behind)))
  | inr before ↦ before
]

-- what represents the slots of a piece before it is written again, or stays, represents them after
piece_stands : (stream : PagedStream) (added : Added) (items : List Item) (which : OldPieces) (again : Bool)
    (piece : TextPiece) (slots : List Slot) → IsTrue again ↔ IsRewritten added.base which piece →
    StandInSession stream (plan_of added) (places_of_piece piece) slots →
    StandInSession stream
    (plan_of (record { base = added.base; items = items ++ values_for again (map slot_item slots) }))
    (places_of_piece (renewed_piece (place_if_again again (added.base + 2 * length items)) piece)) slots
piece_stands stream added items which true piece slots is stand =
    fresh_stand stream added.base items piece slots (omega (arith, stand.len, length-unit_places piece))
piece_stands stream added items which false piece slots is stand =
    kept_stand stream (plan_of added)
    (plan_of (record { base = added.base; items = items ++ values_for false (map slot_item slots) }))
    (places_of_piece piece) slots (old_units piece added.base (kept_end added.base which piece is)) stand

-- the units of a piece, which are bounded where they are old, at its new place or where it was
old_for : (stream : PagedStream) (base number : ℕ) (again : Bool) (piece : TextPiece) (slots : List Slot) →
    piece.len ≡ length slots → AreTogether (IsOldBounded stream base) (places_of_piece piece) slots →
    AreTogether (IsOldBounded stream base)
    (places_of_piece (renewed_piece (place_if_again again (base + 2 * number)) piece)) slots
old_for stream base number true piece slots len old =
    new_units stream base (renewed_piece (Some (base + 2 * number)) piece) slots (omega arith) len
old_for stream base number false piece slots len old = old

pub total_within : (before behind : List TextPiece) (piece : TextPiece) →
    total_length before + piece.len ≤ total_length (before ++ (piece ∷ behind))
total_within before behind piece =
    let units : TextPiece → ℕ = λ p. p.len in
    omega (arith, sum_by-append units before (piece ∷ behind), sum_by-cons units piece behind)

pub written_more : (which : OldPieces) (again : Bool) (old : SessionText) (slots : List Slot) (before behind : List TextPiece)
    (piece : TextPiece) (items : List Item) (places : List (Option ℕ)) →
    old.pieces.pieces ≡ before ++ (piece ∷ behind) → length slots ≡ total_length old.pieces.pieces →
    old.added.base + 2 * total_length old.pieces.pieces < 2 ^ 32 → All HasShortProperties (map slot_item slots) →
    IsTrue again ↔ IsRewritten old.added.base which piece → AreWritten which old slots before items places →
    AreWritten which old slots (before ++ piece ∷ [])
    (items ++ values_for again (slice_range (map slot_item slots) (total_length before)
    (total_length before + piece.len)))
    (places ++ place_if_again again (old.added.base + 2 * length items) ∷ [])
written_more which again old slots before behind piece items places pieces_are counted room short is written =
    let base : ℕ = old.added.base in
    let cp : ℕ = total_length before in
    let end : ℕ = cp + piece.len in
    let place : Option ℕ = place_if_again again (base + 2 * length items) in
    let range : List Slot = slice_range slots cp end in
    let one : Added = record { base = base; items = items } in
    let mapped : slice_range (map slot_item slots) cp end ≡ map slot_item range =
    ap (take (end - cp)) (drop-map slot_item cp slots) ∙ take-map slot_item (end - cp) (drop cp slots) in
    let within : end ≤ length slots =
    omega (arith, counted, ap total_length pieces_are, total_within before behind piece) in
    let long : length range ≡ piece.len =
    omega (arith, length-take (end - cp) (drop cp slots), length-drop cp slots, within) in
    let len : length places ≡ length before = written.chosen.len in
    let few = units_few places before in
    let units = written.units in
    let space : base + 2 * (length items + piece.len) < 2 ^ 32 = omega (arith, few, units, within, counted, room) in
    rw mapped (record {
      chosen =
          together_joined (IsChosen base which) places before (place ∷ []) (piece ∷ []) written.chosen
          (together_one (IsChosen base which) place piece (chosen_for base (length items) which again piece is));
      room =
          together_joined HasRoomAt places before (place ∷ []) (piece ∷ []) written.room
          (together_one HasRoomAt place piece (room_for base (length items) again piece space));
      units =
          omega (
            arith,
            units,
            length-append items (values_for again (map slot_item range)),
            units_for base (length items) again piece range long,
            renewed_units-push places before place piece len,
          );
      short =
          All-append HasShortProperties items (values_for again (map slot_item range)) written.short
          (short_for again (map slot_item range)
          (subst (All HasShortProperties) mapped
          (All-front HasShortProperties (end - cp) (drop cp (map slot_item slots))
          (All-back HasShortProperties cp (map slot_item slots) short))));
      bounded = λ stream old_units.
          let P : UnitPlace → Slot → Type 0 = IsOldBounded stream base in
          let here : AreTogether P (places_of_piece piece) range =
          subst (λ l. AreTogether P l range) (piece_in old.pieces.pieces before behind piece pieces_are)
          (together_range P (flat_pieces old.pieces.pieces) slots cp end old_units) in
          let both = together_joined P (flat_pieces (renewed_pieces places before)) (take cp slots)
          (places_of_piece (renewed_piece place piece)) range (written.bounded stream old_units)
          (old_for stream base (length items) again piece range (sym long) here) in
          subst (λ l. AreTogether P l (take (total_length (before ++ piece ∷ [])) slots))
          (sym (ap flat_pieces (renewed_pieces-push places before place piece len)
          ∙ flat_pieces-push (renewed_pieces places before) (renewed_piece place piece)))
          (subst (λ l. AreTogether P (flat_pieces (renewed_pieces places before) ++ places_of_piece
          (renewed_piece place piece)) l) (sym (ap (λ n. take n slots) (total_more before piece)
          ∙ next_slots slots cp end (omega arith) within)) both);
      stands = λ stream below stand.
          let all : Added = record { base = base; items = items ++ values_for again (map slot_item range) } in
          let here : StandInSession stream (plan_of old.added) (places_of_piece piece) range =
          subst (λ l. StandInSession stream (plan_of old.added) l range)
          (piece_in old.pieces.pieces before behind piece pieces_are)
          (together_range (IsPlaceForSlot (StandsInEither stream (plan_of old.added)) (IsGivenBy stream (plan_of
          old.added)))
          (flat_pieces old.pieces.pieces) slots cp end stand) in
          let front : StandInSession stream (plan_of all) (flat_pieces (renewed_pieces places before)) (take cp slots) =
          grown_stands stream one all (values_for again (map slot_item range)) (flat_pieces (renewed_pieces places
          before)) (take cp slots) refl refl (written.stands stream below stand) in
          let back : StandInSession stream (plan_of all) (places_of_piece (renewed_piece place piece)) range =
          piece_stands stream old.added items which again piece range is here in
          let both = together_joined (IsPlaceForSlot (StandsInEither stream (plan_of all)) (IsGivenBy stream (plan_of
          all)))
          (flat_pieces (renewed_pieces places before)) (take cp slots) (places_of_piece (renewed_piece place piece))
          range
          front back in
          let places_are : flat_pieces (renewed_pieces (places ++ place ∷ []) (before ++ piece ∷ [])) ≡ flat_pieces
          (renewed_pieces places before) ++ places_of_piece (renewed_piece place piece) =
          ap flat_pieces (renewed_pieces-push places before place piece len) ∙ flat_pieces-push (renewed_pieces places
          before) (renewed_piece place piece) in
          let slots_are : take (total_length (before ++ piece ∷ [])) slots ≡ take cp slots ++ range =
          ap (λ n. take n slots) (total_more before piece) ∙ next_slots slots cp end (omega arith) within in
          subst (λ l. StandInSession stream (plan_of all) l (take (total_length (before ++ piece ∷ [])) slots))
          (sym places_are)
          (subst (λ l. StandInSession stream (plan_of all) (flat_pieces (renewed_pieces places before) ++
          places_of_piece
          (renewed_piece place piece)) l) (sym slots_are) both);
    })

-- what is told of a piece that may be there
pub told : {A : Type 0} (o : Option A) (P : A → Type 0) (x : A) → o ≡ Some x → MatchOption o ⊥ P → P x
told None P x is match = absurd match
told (Some y) P x is match = subst P (same_Some y x is) match

-- a piece that ends before added text is written again where it is among the old ones that are
pub judged_piece : (o : Option TextPiece) (base : ℕ) (which : OldPieces) (among : Bool) (bare : Piece)
    (modifier : Modifier) →
    option_map bare_piece o ≡ Some bare → option_map (λ piece. piece.modifier) o ≡ Some modifier →
    piece_end bare ≤ base → IsTrue among ↔ IsAmong which modifier →
    MatchOption o ⊥ (λ piece. IsTrue among ↔ IsRewritten base which piece)
judged_piece None base which among bare modifier is has end told = absurd (none-some bare is)
judged_piece (Some piece) base which among bare modifier is has end told =
    let same : bare_piece piece ≡ bare = same_Some (bare_piece piece) bare is in
    let its : piece.modifier ≡ modifier = same_Some piece.modifier modifier has in (
      λ set. inr (subst (IsAmong which) (sym its) (told.0 set)),
      λ rewritten. elim rewritten [
        | inl behind ↦ absurd (omega (arith, behind, end, ap piece_end same))
        | inr old ↦ told.1 (subst (IsAmong which) its old)
      ],
    )

-- ---- all pieces

-- a piece more has its units behind the others
pub units_more : (places : List (Option ℕ)) (pieces : List TextPiece) (again : Bool) (at : ℕ) (piece : TextPiece) →
    length places ≡ length pieces → renewed_units (places ++ place_if_again again at ∷ []) (pieces ++ piece ∷ []) ≡
    renewed_units places pieces + len_for again piece.len
units_more places pieces true at piece len = omega (arith, renewed_units-push places pieces (Some at) piece len)
units_more places pieces false at piece len = omega (arith, renewed_units-push places pieces None piece len)

some_place : (again : Bool) (at : ℕ) → is_some (place_if_again again at) ≡ again
some_place true at = refl
some_place false at = refl

-- a piece more is at its place, where it is written again
pub chosen_more : (which : OldPieces) (again : Bool) (old : SessionText) (before behind : List TextPiece) (piece : TextPiece)
    (places : List (Option ℕ)) (at : ℕ) → old.pieces.pieces ≡ before ++ (piece ∷ behind) →
    old.added.base + 2 * total_length old.pieces.pieces < 2 ^ 32 →
    IsTrue again ↔ IsRewritten old.added.base which piece → at ≡ old.added.base + 2 * renewed_units places before →
    length places ≡ length before → AreChosen which old before places →
    AreChosen which old (before ++ piece ∷ []) (places ++ place_if_again again at ∷ [])
chosen_more which again old before behind piece places at pieces_are room is at_is len chosen slots counted short =
    let all : List Item = map slot_item slots in
    let items : List Item = renewed_values places before all in
    let written = chosen slots counted short in
    let units = written.units in
    let begin : ℕ = old.added.base + 2 * length items in
    let same : begin ≡ at = omega (arith, at_is, units) in
    let end : ℕ = total_length before + piece.len in
    let values : renewed_values (places ++ place_if_again again at ∷ []) (before ++ piece ∷ []) all
    ≡ items ++ values_for again (slice_range all (total_length before) end) =
    renewed_values-push places before (place_if_again again at) piece all len
    ∙ ap (λ b. items ++ values_for b (slice_range all (total_length before) end)) (some_place again at) in
    let more = written_more which again old slots before behind piece items places pieces_are counted room short is
    written in
    subst (λ l. AreWritten which old slots (before ++ piece ∷ []) l (places ++ place_if_again again at ∷ [])) (sym
    values)
    (subst (λ n. AreWritten which old slots (before ++ piece ∷ []) (items ++ values_for again (slice_range all
    (total_length before) end)) (places ++ place_if_again again n ∷ [])) same more)

pub nothing_written : (which : OldPieces) (old : SessionText) → AreChosen which old [] []
nothing_written which old slots counted short = record {
  chosen = record { len = refl; each = λ k place piece here there. absurd (none-some piece there) };
  room = record { len = refl; each = λ k place piece here there. absurd (none-some piece there) };
  units = refl;
  short = All-nil HasShortProperties;
  bounded = λ stream old_units.
      subst (λ l. AreTogether (IsOldBounded stream old.added.base) l []) (sym flat_pieces-nil)
      (record { len = refl; each = λ k place slot here there. absurd (none-some place here) });
  stands = λ stream below stand. nowhere;
}
  where
    nowhere : {stream : PagedStream} → StandInSession stream (plan_of (record { base = old.added.base; items = [] }))
        (flat_pieces []) (take 0 slots)
    nowhere {stream} =
        subst (λ l. StandInSession stream (plan_of (record { base = old.added.base; items = [] })) l [])
        (sym flat_pieces-nil)
        (record { len = refl; each = λ k place slot here there. absurd (none-some place here) })

-- ---- the text that is written again

-- a text that was written again
pub written_text : (document : Document) (which : OldPieces) (old new : SessionText) (places : List (Option ℕ)) →
    total_length old.pieces.pieces ≡ length (document_slots document (ends_of old.ends)) →
    AreWritten which old (document_slots document (ends_of old.ends)) old.pieces.pieces new.added.items places →
    new.pieces.pieces ≡ renewed_pieces places old.pieces.pieces → new.ends ≡ old.ends →
    new.added.base ≡ old.added.base → new.sections.items ≡ old.sections.items →
    IsWrittenAgain document which old new
written_text document which old new places counted written pieces ends base sections =
    let slots : List Slot = document_slots document (ends_of old.ends) in
    let units = written.units in
    let all : take (total_length old.pieces.pieces) slots ≡ slots =
    take_all (total_length old.pieces.pieces) slots (omega (arith, counted)) in
    let added : new.added ≡ record { base = old.added.base; items = new.added.items } =
    ap (λ n. record { base = n; items = new.added.items }) base in
    record {
      text = λ stream before.
          let stand = written.stands stream before.base before.places in
          let below = before.base in
          record {
            places =
                subst (λ e. StandInSession stream (plan_of new.added) (flat_pieces new.pieces.pieces) (document_slots
                document (ends_of e))) (sym ends)
                (subst (λ a. StandInSession stream (plan_of a) (flat_pieces new.pieces.pieces) slots) (sym added)
                (subst (λ l. StandInSession stream (plan_of (record {
                  base = old.added.base;
                  items = new.added.items;
                })) (flat_pieces l) slots) (sym pieces)
                (subst (λ l. StandInSession stream (plan_of (record {
                  base = old.added.base;
                  items = new.added.items;
                })) (flat_pieces (renewed_pieces places old.pieces.pieces)) l) all stand)));
            short = written.short;
            base = omega (arith, below, base);
          };
      bounded = λ stream before.
          let P : UnitPlace → Slot → Type 0 = IsOldBounded stream old.added.base in
          let stay = written.bounded stream before in
          subst (λ n. AreTogether (IsOldBounded stream n) (flat_pieces new.pieces.pieces) (document_slots document
          (ends_of new.ends))) (sym base)
          (subst (λ e. AreTogether P (flat_pieces new.pieces.pieces) (document_slots document (ends_of e))) (sym ends)
          (subst (λ l. AreTogether P (flat_pieces l) slots) (sym pieces)
          (subst (λ l. AreTogether P (flat_pieces (renewed_pieces places old.pieces.pieces)) l) all stay)));
      fit = λ fit.
          subst HaveFitModifiers (sym pieces) (modifiers_there FitsPages places old.pieces.pieces none_fits fit);
      modified = λ none.
          subst HaveNoModifiers (sym pieces)
          (modifiers_there (λ (m : Modifier). m ≡ no_modifier) places old.pieces.pieces refl none);
      printed = λ most within.
          subst (HaveModifiersWithin most) (sym pieces)
          (modifiers_there (λ (m : Modifier). length (printed_modifier m) ≤ most) places old.pieces.pieces
          (omega (arith, none_printed)) within);
      count = ap length pieces ∙ length-renewed places old.pieces.pieces;
      pieces = record { places = places; chosen = written.chosen; pieces = pieces; units = written.units };
      few = omega (arith, units, units_few places old.pieces.pieces);
      beside = record { ends = ends; base = base; sections = sections };
    }

-- ---- the items of a document are short

judged_short : (slot : Slot) → IsShownAs HasShortProperties slot → HasShortProperties (slot_item slot)
judged_short (shown item) short = short
judged_short loose short = mark_short
judged_short last short = mark_short

pub whole_short : (document : Document) (ends : StoryEnds) → IsSound document →
    All HasShortProperties (map slot_item (document_slots document ends))
whole_short document ends sound =
    let right = sound_is_valid document sound in
    let text : (part : Where) (items : List Item) → text_of_place document part ≡ Some items → All HasShortProperties
    items =
    λ part items there. All-from_slice_get HasShortProperties items (right.texts part items there).short in
    let all = all_shown HasShortProperties document ends (text Main document.main refl)
    (joined_all HasShortProperties document.notes (λ k items there. text (Note k) items there))
    (joined_all HasShortProperties document.heads (λ k items there. text (Head k) items there)) in
    All-map HasShortProperties slot_item (document_slots document ends)
    (λ k d below. judged_short (get_or (document_slots document ends) k d) (all k d below))
