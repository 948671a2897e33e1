-- A Clx is short: a Prc for a piece at most, and twelve bytes for each piece.
use Rattle.std.specs.Prelude.{slice_index_or}
use Rattle.std.specs.List.{All}
use Rattle.std.proofs.Common.{◌≡◌, ℕ, ◌+◌, ◌*◌, ◌<◌, ◌≤◌, Bool, true, false, List, [], ◌∷◌, ◌++◌, ◌∙◌, length}
use Rattle.std.proofs.Common.{map, get_or, refl, ap, subst, arith}
use Rattle.std.proofs.Common.{length-append, mul-le-mul_right, add-mul, mul_comm}
use Rattle.std.proofs.lemmas.List.{length-map, get_or_append_left, get_or-append-add}
use Rattle.std.proofs.lemmas.List.FromFn.{get_or-map-range_with_len}
use Rattle.std.proofs.lemmas.List.Concat.{length-flat_map}
use Rattle.std.proofs.lemmas.List.Elements.{All-map, All-contains, All-from_get_or, All-nil, All-cons, All-head}
use Rattle.std.proofs.lemmas.List.Elements.{All-tail}
use Rattle.std.proofs.lemmas.List.Sums.{sum_by-le}
use Rattle.std.proofs.lemmas.Option.{slice_get-get_or}
use Rattle.doc_bits.specs.Number.{number_bytes}
use Rattle.doc_bits.proofs.Public.{length-number_bytes}
use Rattle.prop_map.specs.declared.modifiers.Modifier.{Modifier}
use Rattle.prop_map.specs.Modifiers.{no_modifier, printed_modifier}
use Rattle.piece_table.specs.Piece.{TextPiece, UnitPlace, bare_piece, unit_bytes, places_of_piece, flat_pieces}
use Rattle.piece_table.specs.Piece.{IsTextPiece}
use Rattle.piece_table.specs.ClxRules.{FitsPages}
use Rattle.piece_table.proofs.Public.{length-unit_places, length-plc_bytes, length-pcd_bytes, printed_short}
use Rattle.piece_table.specs.Clx.{prc_bytes, pcdt_bytes}
use Rattle.piece_table.specs.Printing.{IsPrintedPrc, IsPrintedClx, printed_prcs, plc_bytes}
use Rattle.save_laws.specs.ClxLengths.{HasShortPrc, HaveShortPrcs, reckoned_prc, ClxIsShort, ReckonedPrcsAreShort}

-- the Prcs together
prcs_short : (pieces : List TextPiece) (prcs : List Modifier) (most : ℕ) → HaveShortPrcs most pieces →
    All (IsPrintedPrc pieces) prcs → length (printed_prcs prcs) ≤ length prcs * most
prcs_short pieces prcs most short each =
    let modifiers : List Modifier = map (λ (piece : TextPiece). piece.modifier) pieces in
    let all : All (HasShortPrc most) modifiers =
    All-map (HasShortPrc most) (λ (piece : TextPiece). piece.modifier) pieces short in
    let one : (k : ℕ) (d : Modifier) → k < length prcs →
    length (prc_bytes (printed_modifier (slice_index_or prcs k d))) ≤ most = λ k d low.
    let is : IsPrintedPrc pieces (slice_index_or prcs k d) = each k d low in
    All-contains (HasShortPrc most) modifiers (slice_index_or prcs k d) all is.used is.some in
    omega (
      arith,
      length-flat_map (λ (modifier : Modifier). prc_bytes (printed_modifier modifier)) prcs,
      sum_by-le (λ (modifier : Modifier). length (prc_bytes (printed_modifier modifier))) most prcs one,
    )

no_piece : TextPiece
no_piece = record { at = 0; wide = true; len = 0; modifier = no_modifier }

-- each Pcd has eight bytes
pcds_sized : (pieces : List TextPiece) (bytes : List ℕ) (is : IsPrintedClx pieces bytes) →
    All (λ (pcd : List ℕ). length pcd ≡ 8) is.pcds
pcds_sized pieces bytes is =
    All-from_get_or (λ (pcd : List ℕ). length pcd ≡ 8) is.pcds [] (λ k low.
    let count = is.count in
    let within : k < length pieces = omega arith in
    let piece = slice_index_or pieces k no_piece in
    let pcd = is.pcd k piece (slice_get-get_or pieces k no_piece within) in
    omega (arith, ap length pcd.spelt, length-pcd_bytes (bare_piece piece) pcd.prm))

pub clx_is_short : ClxIsShort
clx_is_short pieces bytes most is short =
    let n = length pieces in
    let lens : List ℕ = map (λ (piece : TextPiece). piece.len) pieces in
    let plc = plc_bytes lens is.pcds in
    let same = length-map pieces (λ (piece : TextPiece). piece.len) in
    let count = is.count in
    let prcs = prcs_short pieces is.prcs most short is.each in
    let fewer : length is.prcs * most ≤ n * most = mul-le-mul_right most is.few in
    let table = length-plc_bytes lens is.pcds (omega (arith, same, count)) (pcds_sized pieces bytes is) in
    omega (
      arith,
      prcs,
      fewer,
      table,
      same,
      add-mul 12 most n,
      mul_comm most n,
      ap length is.spelt,
      length-append (printed_prcs is.prcs) (pcdt_bytes plc),
      length-append (number_bytes 4 (length plc)) plc,
      length-number_bytes 4 (length plc),
    )

-- ---- pieces by their units

-- the first unit of a piece has its modifier
first_of : (piece : TextPiece) (more : List UnitPlace) (d : UnitPlace) → 1 ≤ piece.len →
    (get_or (places_of_piece piece ++ more) 0 d).modifier ≡ piece.modifier
first_of piece more d some =
    let place : ℕ → UnitPlace = λ (j : ℕ). record {
      at = piece.at + j * unit_bytes piece.wide;
      wide = piece.wide;
      modifier = piece.modifier;
    } in
    let len = length-unit_places piece in
    ap (λ (p : UnitPlace). p.modifier)
    (get_or_append_left (places_of_piece piece) more d 0 (omega (arith, len, some))
    ∙ get_or-map-range_with_len place 0 piece.len 0 0 d some (omega arith))

behind : (piece : TextPiece) (more : List UnitPlace) (P : Modifier → Type 0) →
    All (λ (place : UnitPlace). P place.modifier) (places_of_piece piece ++ more) →
    All (λ (place : UnitPlace). P place.modifier) more
behind piece more P all k d low =
    let parts = length-append (places_of_piece piece) more in
    subst (λ (place : UnitPlace). P place.modifier) (get_or-append-add (places_of_piece piece) more k d)
    (all (length (places_of_piece piece) + k) d (omega (arith, low, parts)))

-- what holds of the modifier of each unit holds of that of each piece
pub by_units : (P : Modifier → Type 0) (pieces : List TextPiece) → All IsTextPiece pieces →
    All (λ (place : UnitPlace). P place.modifier) (flat_pieces pieces) →
    All (λ (piece : TextPiece). P piece.modifier) pieces
unfolding flat_pieces
by_units P [] each all = All-nil (λ (piece : TextPiece). P piece.modifier)
by_units P (piece ∷ pieces) each all =
    let more = flat_pieces pieces in
    let some = (All-head IsTextPiece piece pieces each).units.some in
    let units = length-unit_places piece in
    let parts = length-append (places_of_piece piece) more in
    let d : UnitPlace = record { at = 0; wide = true; modifier = no_modifier } in
    All-cons (λ (other : TextPiece). P other.modifier) piece pieces
    (subst P (first_of piece more d some) (all 0 d (omega (arith, some, units, parts))))
    (by_units P pieces (All-tail IsTextPiece piece pieces each) (behind piece more P all))

reckoned : (pieces : List TextPiece) (modified : Bool) (printed : ℕ) →
    (modified ≡ false → All (λ (piece : TextPiece). piece.modifier ≡ no_modifier) pieces) →
    All (λ (piece : TextPiece). FitsPages piece.modifier) pieces →
    All (λ (piece : TextPiece). length (printed_modifier piece.modifier) ≤ printed) pieces →
    HaveShortPrcs (reckoned_prc modified printed) pieces
reckoned pieces false printed none fit short = λ k d low some. absurd (some (none refl k d low))
reckoned pieces true printed none fit short = λ k d low some.
    let modifier : Modifier = (slice_index_or pieces k d).modifier in
    let list = printed_modifier modifier in
    omega (
      arith,
      printed_short modifier (fit k d low),
      short k d low,
      length-append (number_bytes 2 (length list)) list,
      length-number_bytes 2 (length list),
    )

pub reckoned_prcs_are_short : ReckonedPrcsAreShort
reckoned_prcs_are_short pieces modified printed are is =
    reckoned pieces modified printed
    (λ e. by_units (λ (modifier : Modifier). modifier ≡ no_modifier) pieces are.each (is.none e))
    (by_units FitsPages pieces are.each is.fit)
    (by_units (λ (modifier : Modifier). length (printed_modifier modifier) ≤ printed) pieces are.each is.short)
