-- Pieces at new places, and the entries that they are kept as.
use Rattle.std.proofs.Common.{◌≡◌, ◌≢◌, ◌∙◌, ℕ, zero, suc, ◌+◌, ◌*◌, ◌<◌, List, [], ◌∷◌, ◌++◌, length, map, take, All}
use Rattle.std.proofs.Common.{get_or, slice_get, slice_index, slice_index_or, true, Option, Some, None, refl, sym}
use Rattle.std.proofs.Common.{ap, subst, arith}
use Rattle.std.specs.Prelude.{slice_range}
use Rattle.std.specs.List.{splice, range_with_len}
use Rattle.std.proofs.lemmas.Option.{get_or_from_slice_get}
use Rattle.std.proofs.lemmas.List.Elements.{All-nil, All-cons, All-head, All-tail, All-append, All-map}
use Rattle.std.proofs.lemmas.List.Sums.{sum_by-cons}
use Rattle.doc_bits.specs.Together.{AreTogether}
use Rattle.doc_bits.proofs.Public.{All_at, All-from_slice_get, in_front, from_behind}
use Rattle.prop_map.specs.declared.modifiers.Modifier.{Modifier}
use Rattle.prop_map.specs.Modifiers.{no_modifier}
use Rattle.piece_table.specs.declared.pieces.Entry.{Entry}
use Rattle.piece_table.specs.Piece.{TextPiece, UnitPlace, IsTextPiece, ArePieces, unit_bytes, places_of_piece}
use Rattle.piece_table.specs.Piece.{flat_pieces, total_length}
use Rattle.piece_table.specs.Numbering.{text_piece, AreNumbered}
use Rattle.piece_table.specs.Renewals.{renewed_piece, renewed_pieces, HasRoomAt, AreNewPlaces, moved_entry}
use Rattle.piece_table.specs.Renewals.{moved_entries}
use Rattle.piece_table.specs.Cuts.{renumbered_entry}
use Rattle.piece_table.specs.Renumbering.{HaveCopied}
use Rattle.piece_table.proofs.FlatLemmas.{flat_pieces-cons}
use Rattle.piece_table.proofs.RenumberLemmas.{seen-copied, copied_named, whole_range}
use Rattle.piece_table.proofs.SprmModifierLemmas.{none_formed}

-- ---- entries at new places

-- one entry more
pub moved_more : (places : List (Option ℕ)) (entries : List Entry) (k : ℕ) (p : Option ℕ) (e : Entry) →
    k < length places → k < length entries → moved_entries (take (suc k) places) (take (suc k) entries) ≡
    moved_entries (take k places) (take k entries) ++ moved_entry (get_or places k p) (get_or entries k e) ∷ []
moved_more [] entries k p e low below = absurd (omega (arith, low))
moved_more (place ∷ places) [] k p e low below = absurd (omega (arith, below))
moved_more (place ∷ places) (entry ∷ entries) zero p e low below = refl
moved_more (place ∷ places) (entry ∷ entries) (suc k) p e low below =
    ap (λ l. moved_entry place entry ∷ l) (moved_more places entries k p e (omega (arith, low)) (omega (arith, below)))

-- so it is seen
pub seen-moved : (modifiers : List Modifier) (places : List (Option ℕ)) (entries : List Entry) →
    slice_get modifiers 0 ≡ Some no_modifier → map (text_piece modifiers) (moved_entries places entries) ≡
    renewed_pieces places (map (text_piece modifiers) entries)
seen-moved modifiers [] entries first = refl
seen-moved modifiers (place ∷ places) [] first = refl
seen-moved modifiers (None ∷ places) (entry ∷ entries) first =
    ap (λ l. text_piece modifiers entry ∷ l) (seen-moved modifiers places entries first)
seen-moved modifiers (Some at ∷ places) (entry ∷ entries) first =
    let none : slice_index_or modifiers 0 no_modifier ≡ no_modifier =
    get_or_from_slice_get modifiers 0 no_modifier no_modifier first in
    let head : text_piece modifiers (moved_entry (Some at) entry) ≡ renewed_piece (Some at) (text_piece modifiers
    entry) = ap (λ m. record { at = at; wide = true; len = entry.piece.len; modifier = m }) none in
    cc (head, seen-moved modifiers places entries first)

-- the entries name modifiers of the list, as before
pub moved_named : (count : ℕ) (places : List (Option ℕ)) (entries : List Entry) → 0 < count →
    All (λ entry. entry.modifier < count) entries → All (λ entry. entry.modifier < count) (moved_entries places entries)
moved_named count [] entries some all = all
moved_named count (place ∷ places) [] some all = All-nil (λ (entry : Entry). entry.modifier < count)
moved_named count (place ∷ places) (entry ∷ entries) some all =
    let N : Entry → Type 0 = λ entry. entry.modifier < count in
    All-cons N (moved_entry place entry) (moved_entries places entries) (one place)
    (moved_named count places entries some (All-tail N entry entries all))
  where
    one : (place : Option ℕ) → (moved_entry place entry).modifier < count
    one None = All-head (λ (entry : Entry). entry.modifier < count) entry entries all
    one (Some at) = some

-- ---- pieces at new places

first_together : {A B : Type 0} (P : A → B → Type 0) (x : A) (xs : List A) (y : B) (ys : List B) →
    AreTogether P (x ∷ xs) (y ∷ ys) → P x y
first_together P x xs y ys together = together.each 0 x y refl refl

pub others_together : {A B : Type 0} (P : A → B → Type 0) (x : A) (xs : List A) (y : B) (ys : List B) →
    AreTogether P (x ∷ xs) (y ∷ ys) → AreTogether P xs ys
others_together P x xs y ys together = record {
  len = omega (arith, together.len);
  each = λ k a b here there. together.each (suc k) a b here there;
}

pub length-renewed : (places : List (Option ℕ)) (pieces : List TextPiece) → length (renewed_pieces places pieces) ≡
    length pieces
length-renewed [] pieces = refl
length-renewed (place ∷ places) [] = refl
length-renewed (place ∷ places) (piece ∷ pieces) = ap suc (length-renewed places pieces)

-- a piece has as many units at a new place
units_stay : (place : Option ℕ) (piece : TextPiece) → (renewed_piece place piece).len ≡ piece.len
units_stay None piece = refl
units_stay (Some at) piece = refl

pub total_length-renewed : (places : List (Option ℕ)) (pieces : List TextPiece) → total_length (renewed_pieces places
    pieces) ≡ total_length pieces
total_length-renewed [] pieces = refl
total_length-renewed (place ∷ places) [] = refl
total_length-renewed (place ∷ places) (piece ∷ pieces) =
    let units : TextPiece → ℕ = λ piece. piece.len in
    omega (
      arith,
      sum_by-cons units (renewed_piece place piece) (renewed_pieces places pieces),
      sum_by-cons units piece pieces,
      units_stay place piece,
      total_length-renewed places pieces,
    )

-- a piece more
pub renewed_pieces-push : (places : List (Option ℕ)) (pieces : List TextPiece) (place : Option ℕ) (piece : TextPiece) →
    length places ≡ length pieces → renewed_pieces (places ++ place ∷ []) (pieces ++ piece ∷ []) ≡ renewed_pieces
    places pieces ++ renewed_piece place piece ∷ []
renewed_pieces-push [] [] place piece len = refl
renewed_pieces-push [] (front ∷ pieces) place piece len = absurd (omega (arith, len))
renewed_pieces-push (first ∷ places) [] place piece len = absurd (omega (arith, len))
renewed_pieces-push (first ∷ places) (front ∷ pieces) place piece len = ap (λ l. renewed_piece first front ∷ l)
    (renewed_pieces-push places pieces place piece (omega (arith, len)))

-- a piece is sound at a place that has room for its units
sound_there : (place : Option ℕ) (piece : TextPiece) → HasRoomAt place piece → IsTextPiece piece →
    IsTextPiece (renewed_piece place piece)
sound_there None piece room sound = sound
sound_there (Some at) piece room sound =
    let some = sound.units.some in
    let end = room at refl in
    record { units = record { some = some; end = omega (arith, end) }; formed = none_formed }

all_sound : (places : List (Option ℕ)) (pieces : List TextPiece) → AreNewPlaces places pieces →
    All IsTextPiece pieces → All IsTextPiece (renewed_pieces places pieces)
all_sound [] pieces room sound = sound
all_sound (place ∷ places) [] room sound = All-nil IsTextPiece
all_sound (place ∷ places) (piece ∷ pieces) room sound =
    All-cons IsTextPiece (renewed_piece place piece) (renewed_pieces places pieces)
    (sound_there place piece (first_together HasRoomAt place places piece pieces room)
    (All-head IsTextPiece piece pieces sound))
    (all_sound places pieces (others_together HasRoomAt place places piece pieces room)
    (All-tail IsTextPiece piece pieces sound))

pub renewed_sound : (places : List (Option ℕ)) (pieces : List TextPiece) → AreNewPlaces places pieces →
    ArePieces pieces → ArePieces (renewed_pieces places pieces)
renewed_sound places pieces room are = record {
  each = all_sound places pieces room are.each;
  total =
      let total = are.total in
      omega (arith, total_length-renewed places pieces);
}

-- what holds of the modifier of each unit, and of none, holds of those at new places
units_have : (P : Modifier → Type 0) (piece : TextPiece) → P piece.modifier →
    All (λ place. P place.modifier) (places_of_piece piece)
units_have P piece has = All-map (λ (place : UnitPlace). P place.modifier) (λ j. record {
  at = piece.at + j * unit_bytes piece.wide;
  wide = piece.wide;
  modifier = piece.modifier;
}) (range_with_len 0 piece.len) (λ k d low. has)

one_has : (P : Modifier → Type 0) (place : Option ℕ) (piece : TextPiece) → P no_modifier →
    All (λ place. P place.modifier) (places_of_piece piece) → All (λ place. P place.modifier) (places_of_piece
    (renewed_piece
    place piece))
one_has P None piece none have = have
one_has P (Some at) piece none have = units_have P (renewed_piece (Some at) piece) none

-- what holds of joined lists holds of each
of_front : {A : Type 0} (P : A → Type 0) (xs ys : List A) → All P (xs ++ ys) → All P xs
of_front P xs ys all = All-from_slice_get P xs (λ k x here. All_at P (xs ++ ys) k x all (in_front xs ys k x here))

of_back : {A : Type 0} (P : A → Type 0) (xs ys : List A) → All P (xs ++ ys) → All P ys
of_back P xs ys all =
    All-from_slice_get P ys (λ k x here. All_at P (xs ++ ys) (length xs + k) x all (from_behind xs ys k ∙ here))

pub modifiers_there : (P : Modifier → Type 0) (places : List (Option ℕ)) (pieces : List TextPiece) → P no_modifier →
    All (λ place. P place.modifier) (flat_pieces pieces) → All (λ place. P place.modifier) (flat_pieces
    (renewed_pieces places pieces))
modifiers_there P [] pieces none have = have
modifiers_there P (place ∷ places) [] none have = have
modifiers_there P (place ∷ places) (piece ∷ pieces) none have =
    let Q : UnitPlace → Type 0 = λ unit. P unit.modifier in
    let all : All Q (places_of_piece piece ++ flat_pieces pieces) = subst (All Q) (flat_pieces-cons piece pieces) have
    in
    subst (All Q) (sym (flat_pieces-cons (renewed_piece place piece) (renewed_pieces places pieces)))
    (All-append Q (places_of_piece (renewed_piece place piece)) (flat_pieces (renewed_pieces places pieces))
    (one_has P place piece none (of_front Q (places_of_piece piece) (flat_pieces pieces) all))
    (modifiers_there P places pieces none (of_back Q (places_of_piece piece) (flat_pieces pieces) all)))

-- ---- the whole list

-- entries at new places that name copies of their modifiers, and what they are seen as
pub record IsRenewedList
    (old new : List Modifier) (places : List (Option ℕ)) (entries made : List Entry) : Type 0 where
  pub numbered : AreNumbered new made
  pub seen : map (text_piece new) made ≡ renewed_pieces places (map (text_piece old) entries)

pub renewed_list : (old new : List Modifier) (numbers : List ℕ) (places : List (Option ℕ))
    (entries moved made : List Entry) (count : ℕ) → slice_get old 0 ≡ Some no_modifier → HaveCopied old new numbers →
    All (λ entry. entry.modifier ≢ 0 → slice_index numbers entry.modifier ≢ 0) moved →
    moved ≡ moved_entries places entries → count ≡ length moved →
    made ≡ splice moved 0 count (map (renumbered_entry numbers) (slice_range moved 0 count)) →
    IsRenewedList old new places entries made
renewed_list old new numbers places entries moved made count first have all are count_is made_is =
    let whole : made ≡ map (renumbered_entry numbers) moved =
    made_is ∙ whole_range (renumbered_entry numbers) moved count count_is in
    record {
      numbered = rw whole (copied_named old new numbers moved have);
      seen =
          ap (map (text_piece new)) whole ∙ (seen-copied old new numbers moved first have all ∙ (ap (map
          (text_piece old)) are ∙ seen-moved old places entries first));
    }
