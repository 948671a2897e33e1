-- Pieces: the entries that they cover, and their sums.
use Rattle.std.proofs.Common.{◌≡◌, ℕ, zero, suc, ◌+◌, ◌-◌, ◌*◌, ◌<◌, ◌≤◌, List, [], ◌∷◌, ◌++◌, length, map, flat_map}
use Rattle.std.proofs.Common.{refl, sym, ap, subst, All, true, get_or, ◌^◌, ◌∙◌, arith, length-append}
use Rattle.std.specs.List.{range_with_len}
use Rattle.std.proofs.lemmas.List.Sums.{sum_by-cons}
use Rattle.std.proofs.lemmas.List.FromFn.{length-map-range_with_len, get_or-map-range_with_len}
use Rattle.std.proofs.lemmas.List.FromFn.{sum_by-map-range_with_len_more}
use Rattle.std.proofs.lemmas.List.{append-nil}
use Rattle.std.proofs.Math.ListN.{get_or-map, length-map}
use Rattle.std.specs.List.{sum_by}
use Rattle.std.proofs.lemmas.Grind.{flat_map-append}
use Rattle.std.proofs.lemmas.List.Elements.{All-from_get_or, All-cons, All-nil}
use Rattle.prop_map.specs.Modifiers.{no_modifier}
use Rattle.piece_table.proofs.SprmModifierLemmas.{none_formed}
use Rattle.doc_bits.specs.Number.{number_at}
use Rattle.doc_bits.specs.Plc.{PlcPart, plc_cp, plc_entry}
use Rattle.doc_bits.proofs.Public.{number_at-range}
use Rattle.std.specs.Prelude.{slice_range}
use Rattle.piece_table.specs.declared.pieces.Piece.{Piece}
use Rattle.piece_table.specs.Clx.{IsPlcPcd, pcd_place, clx_piece, clx_pieces}
use Rattle.piece_table.specs.Front.{AscendsTo, EndsWithin}
use Rattle.prop_map.specs.Modifiers.{IsFormedModifier}
use Rattle.piece_table.specs.Piece.{TextPiece, bare_piece, one_piece, ArePieces, IsPiece, IsTextPiece, UnitPlace}
use Rattle.piece_table.specs.Piece.{places_of_piece, flat_pieces, total_length, unit_bytes}

pub length-unit_places : (piece : TextPiece) → length (places_of_piece piece) ≡ piece.len
length-unit_places piece = length-map-range_with_len (λ j. record {
  at = piece.at + j * unit_bytes piece.wide;
  wide = piece.wide;
  modifier = piece.modifier;
}) 0 piece.len

pub length-flat_pieces : (pieces : List TextPiece) → length (flat_pieces pieces) ≡ total_length pieces
unfolding flat_pieces
length-flat_pieces [] = refl
length-flat_pieces (piece ∷ pieces) =
    omega (
      arith,
      length-append (places_of_piece piece) (flat_map places_of_piece pieces),
      length-unit_places piece,
      length-flat_pieces pieces,
      sum_by-cons (λ p. p.len) piece pieces,
    )

-- a number of a Pcd
pub pcd_number : (plc : PlcPart) (k at width : ℕ) → IsPlcPcd plc → at + width ≤ 8 → number_at (plc_entry plc k) at
    width ≡ number_at plc.bytes (pcd_place plc k + at) width
pcd_number plc k at width table within =
    let from = pcd_place plc k in
    let entry : plc_entry plc k ≡ slice_range plc.bytes from (from + 8) = ap (λ s. slice_range plc.bytes
    (4 * (plc.count + 1) + s * k) (4 * (plc.count + 1) + s * k + s)) table.size in
    ap (λ l. number_at l at width) entry ∙ number_at-range plc.bytes from (from + 8) at width (omega arith)

-- the number of CPs of pieces without their modifiers
abbrev pub bare_length : List Piece → ℕ
bare_length pieces = sum_by (λ piece. piece.len) pieces

pub bare_length-is : (pieces : List TextPiece) → bare_length (map bare_piece pieces) ≡ total_length pieces
bare_length-is [] = refl
bare_length-is (piece ∷ pieces) =
    omega (
      arith,
      bare_length-is pieces,
      sum_by-cons (λ (p : Piece). p.len) (bare_piece piece) (map bare_piece
          pieces),
      sum_by-cons (λ (p : TextPiece). p.len) piece pieces,
    )

-- the units of the first pieces end at the CP after them
units_before : (plc : PlcPart) (text_len n : ℕ) → AscendsTo plc text_len → n ≤ plc.count →
    bare_length (map (clx_piece plc) (range_with_len 0 n)) ≡ plc_cp plc.bytes n
units_before plc text_len zero cps h = sym cps.first
units_before plc text_len (suc n) cps h =
    let before = units_before plc text_len n cps (omega arith) in
    let up = cps.ascends n (omega arith) in
    let more = sum_by-map-range_with_len_more (λ (p : Piece). p.len) (clx_piece plc) 0 n n (omega arith) in
    let e : n + 1 ≡ suc n = omega arith in
    let all : bare_length (map (clx_piece plc) (range_with_len 0 (n + 1))) ≡ plc_cp plc.bytes (n + 1) = omega (
      arith,
      more,
    ) in
    subst (λ m. bare_length (map (clx_piece plc) (range_with_len 0 m)) ≡ plc_cp plc.bytes m) e all

-- what holds of each piece of a Clx
pub All-clx_pieces : (plc : PlcPart) (P : Piece → Type 0) → ((k : ℕ) → k < plc.count → P (clx_piece plc k)) →
    All P (clx_pieces plc)
unfolding clx_pieces
All-clx_pieces plc P each =
    let d : Piece = record { at = 0; wide = true; len = 0 } in
    let count = length-map-range_with_len (clx_piece plc) 0 plc.count in
    All-from_get_or P (map (clx_piece plc) (range_with_len 0 plc.count)) d (λ k h. rw (get_or-map-range_with_len
    (clx_piece plc) 0 plc.count k k d (omega (arith, count)) (omega arith)) (each k (omega (arith, count))))

-- what holds of pieces that are seen through a view holds of the pieces
pub All-seen : {A B : Type 0} (view : A → B) (P : B → Type 0) (xs : List A) → All P (map view xs) →
    All (λ x. P (view x)) xs
All-seen view P xs all = λ k d low. rw (← get_or-map view xs k d) (all k (view d) (omega (arith, length-map xs view)))

-- all units of a Clx
pub total_of : (plc : PlcPart) (text_len : ℕ) → AscendsTo plc text_len → bare_length (clx_pieces plc) ≡ text_len
unfolding clx_pieces
total_of plc text_len cps = units_before plc text_len plc.count cps (omega arith) ∙ cps.last

pub total_of_pieces : (plc : PlcPart) (text_len : ℕ) (pieces : List TextPiece) → AscendsTo plc text_len →
    map bare_piece pieces ≡ clx_pieces plc → total_length pieces ≡ text_len
total_of_pieces plc text_len pieces cps are = sym (bare_length-is pieces) ∙ (ap bare_length are ∙ total_of plc
    text_len cps)

-- pieces of a Clx that was checked
pub pieces_sound : (plc : PlcPart) (text_len : ℕ) (pieces : List TextPiece) → AscendsTo plc text_len →
    EndsWithin plc (2 ^ 32 - 1) → text_len ≤ 500001 → map bare_piece pieces ≡ clx_pieces plc →
    All (λ (p : TextPiece). IsFormedModifier p.modifier) pieces → ArePieces pieces × (text_len ≡ total_length pieces)
pieces_sound plc text_len pieces cps within text are formed =
    let total = total_of_pieces plc text_len pieces cps are in
    let one : (k : ℕ) → k < plc.count → IsPiece (clx_piece plc k) = λ k h. record {
      some = let up = cps.ascends k h in
          omega arith;
      end = let end = within k h in omega arith;
    } in
    let bare : All IsPiece (map bare_piece pieces) = subst (λ ps. All IsPiece ps) (sym are) (All-clx_pieces plc
    IsPiece one) in
    let seen = All-seen bare_piece IsPiece pieces bare in (
      record { each = λ k d low. record { units = seen k d low; formed = formed k d low }; total = omega arith },
      sym total,
    )

-- the entries of one piece more
pub flat_pieces-push : (pieces : List TextPiece) (piece : TextPiece) → flat_pieces (pieces ++ piece ∷ []) ≡
    flat_pieces pieces ++ places_of_piece piece
unfolding flat_pieces
flat_pieces-push pieces piece = flat_map-append places_of_piece pieces (piece ∷ []) ∙ ap (λ l. flat_map places_of_piece
    pieces
    ++ l) (append-nil (places_of_piece piece))

-- the place of a piece's unit
pub get_or-unit_places : (piece : TextPiece) (j : ℕ) (d : UnitPlace) → j < piece.len → get_or (places_of_piece piece) j
    d
    ≡ record { at = piece.at + j * unit_bytes piece.wide; wide = piece.wide; modifier = piece.modifier }
get_or-unit_places piece j d h = get_or-map-range_with_len (λ j. record {
  at = piece.at + j * unit_bytes piece.wide;
  wide = piece.wide;
  modifier = piece.modifier;
}) 0 piece.len j j d h (omega arith)

-- one piece alone
pub one_sound : (at len : ℕ) → 1 ≤ len → len ≤ 500001 → at + 2 * len < 2 ^ 32 → ArePieces (one_piece at len)
one_sound at len some most end = record {
  each = All-cons IsTextPiece (record { at = at; wide = true; len = len; modifier = no_modifier }) []
      (record { units = record { some = some; end = omega arith }; formed = none_formed }) (All-nil IsTextPiece);
  total = omega arith;
}

-- there are as many pieces as Pcds
pub length-clx_pieces : (plc : PlcPart) (pieces : List TextPiece) → map bare_piece pieces ≡ clx_pieces plc →
    length pieces ≡ plc.count
unfolding clx_pieces
length-clx_pieces plc pieces are = omega (
  arith,
  ap length are,
  length-map pieces bare_piece,
  length-map-range_with_len (clx_piece plc) 0 plc.count,
)
