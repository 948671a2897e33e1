-- The places of a text are behind the FIB and within the stream, and so do those of its front.
use Rattle.std.specs.Prelude.{slice_get, ℕ, List}
use Rattle.std.specs.List.{flat_map, range_with_len}
use Rattle.std.proofs.Common.{◌≡◌, ◌∙◌, ◌∷◌, ◌++◌, ◌+◌, ◌-◌, ◌*◌, ◌<◌, ◌≤◌, [], sym, ap, subst}
use Rattle.std.proofs.Common.{Bool, true, false, Some, length, map, take, arith, All}
use Rattle.std.proofs.Math.Seq.{take-append_seam, drop-append_seam}
use Rattle.std.proofs.lemmas.List.Elements.{All-nil, All-cons, All-append, All-map, All-head, All-tail, All-weaker}
use Rattle.std.proofs.lemmas.List.Elements.{All-take, All-drop}
use Rattle.std.proofs.lemmas.List.FromFn.{get_or-range_with_len, length-range_with_len}
use Rattle.doc_bits.proofs.Public.{All_at}
use Rattle.doc_bits.specs.Rules.{Hold}
use Rattle.doc_bits.specs.declared.places.Where.TheVariants.{Table}
use Rattle.fib_form.specs.Fib.{fib_size, fib_pair}
use Rattle.fib_form.specs.TableParts.{pair_number}
use Rattle.fib_form.specs.declared.table_parts.TablePart.TheVariants.{Clx}
use Rattle.piece_table.specs.declared.pieces.TextBounds.{TextBounds}
use Rattle.piece_table.specs.Piece.{TextPiece, UnitPlace, unit_bytes, places_of_piece, bare_piece, flat_pieces}
use Rattle.piece_table.specs.Piece.{IsTextPiece, piece_end}
use Rattle.piece_table.specs.Clx.{ClxParts, IsClx, clx_pieces, plc_place}
use Rattle.piece_table.specs.ClxRules.{StaysInStream, clx_rules, text_bounds}
use Rattle.piece_table.proofs.Public.{parts_unique, stays_of, All-seen, length-unit_places, get_or-unit_places}
use Rattle.file_rules.specs.FileRules.{clx_of, rules_of_pieces}
use Rattle.file_rules.proofs.RightPlaces.{hold_out}

-- a place within the bounds of text
abbrev pub StandsBy : TextBounds → UnitPlace → Type 0
StandsBy bounds place = (bounds.from ≤ place.at) × (place.at + unit_bytes place.wide ≤ bounds.end)

unit_stands : (from at len j end : ℕ) (wide : Bool) → from ≤ at → at + len * unit_bytes wide ≤ end → j < len →
    (from ≤ at + j * unit_bytes wide) × (at + j * unit_bytes wide + unit_bytes wide ≤ end)
unit_stands from at len j end true low high below = (omega (arith, low), omega (arith, high, below))
unit_stands from at len j end false low high below = (omega (arith, low), omega (arith, high, below))

pub below_len : (n : ℕ) → All (λ c. c < n) (range_with_len 0 n)
below_len n = λ k d below.
    let len = length-range_with_len 0 n in
    let at = get_or-range_with_len 0 n k d (omega (arith, below, len)) in
    omega (arith, at, below, len)

units_stand : (bounds : TextBounds) (piece : TextPiece) → StaysInStream bounds (bare_piece piece) →
    All (StandsBy bounds) (places_of_piece piece)
units_stand bounds piece stays =
    let place : ℕ → UnitPlace =
    λ j. record { at = piece.at + j * unit_bytes piece.wide; wide = piece.wide; modifier = piece.modifier } in
    All-map (StandsBy bounds) place (range_with_len 0 piece.len)
    (All-weaker (λ c. c < piece.len) (λ j. StandsBy bounds (place j))
    (λ j below. unit_stands bounds.from piece.at piece.len j bounds.end piece.wide stays.0 stays.1 below)
    (range_with_len 0 piece.len) (below_len piece.len))

-- pieces that stay in the stream
abbrev pub StayInStream : TextBounds → List TextPiece → Type 0
StayInStream bounds = All (λ (piece : TextPiece). StaysInStream bounds (bare_piece piece))

pub flat_stands : (bounds : TextBounds) (pieces : List TextPiece) → StayInStream bounds pieces →
    All (StandsBy bounds) (flat_map places_of_piece pieces)
flat_stands bounds [] all = All-nil (StandsBy bounds)
flat_stands bounds (piece ∷ pieces) all =
    let Stays : TextPiece → Type 0 = λ piece. StaysInStream bounds (bare_piece piece) in
    All-append (StandsBy bounds) (places_of_piece piece) (flat_map places_of_piece pieces)
    (units_stand bounds piece (All-head Stays piece pieces all))
    (flat_stands bounds pieces (All-tail Stays piece pieces all))

-- the pieces of a Clx of which the rules on pieces hold
pub pieces_stand : (wd table : List ℕ) (text_len : ℕ) (pieces : List TextPiece) →
    Hold (rules_of_pieces wd table text_len) → IsClx (clx_of wd table) pieces →
    StayInStream (text_bounds (fib_size wd) (length wd)) pieces
pieces_stand wd table text_len pieces h is =
    let clx = clx_of wd table in
    let at = (fib_pair wd (pair_number Clx)).0 in
    let bounds = text_bounds (fib_size wd) (length wd) in
    let rules = hold_out Table (clx_rules clx at bounds text_len) h.1 in
    let parts = rules.1.0 in
    let same : is.parts ≡ parts = parts_unique clx is.parts parts is.spelt rules.1.1.0 in
    let stays = stays_of parts.plc (at + plc_place parts) bounds rules.1.1.1.0.1.0 in
    let are : map bare_piece pieces ≡ clx_pieces parts.plc =
    is.pieces_are ∙ ap (λ (p : ClxParts). clx_pieces p.plc) same in
    All-seen bare_piece (StaysInStream bounds) pieces (subst (All (StaysInStream bounds)) (sym are) stays)

-- the places of them
pub places_stand : (wd table : List ℕ) (text_len : ℕ) (pieces : List TextPiece) →
    Hold (rules_of_pieces wd table text_len) → IsClx (clx_of wd table) pieces →
    All (StandsBy (text_bounds (fib_size wd) (length wd))) (flat_pieces pieces)
unfolding flat_pieces
places_stand wd table text_len pieces h is =
    flat_stands (text_bounds (fib_size wd) (length wd)) pieces (pieces_stand wd table text_len pieces h is)

pub place_stands : (wd table : List ℕ) (text_len : ℕ) (pieces : List TextPiece) →
    Hold (rules_of_pieces wd table text_len) → IsClx (clx_of wd table) pieces → (cp : ℕ) (place : UnitPlace) →
    slice_get (flat_pieces pieces) cp ≡ Some place → StandsBy (text_bounds (fib_size wd) (length wd)) place
place_stands wd table text_len pieces h is cp place here =
    All_at (StandsBy (text_bounds (fib_size wd) (length wd))) (flat_pieces pieces) cp place
    (places_stand wd table text_len pieces h is) here

-- ---- the front of a text

-- the last unit of a piece ends where the piece does
unit_ends : (at len : ℕ) (wide : Bool) (end : ℕ) → 1 ≤ len →
    at + (len - 1) * unit_bytes wide + unit_bytes wide ≤ end → at + len * unit_bytes wide ≤ end
unit_ends at len true end some last = omega (arith, some, last)
unit_ends at len false end some last = omega (arith, some, last)

piece_ends : (bounds : TextBounds) (piece : TextPiece) → 1 ≤ piece.len → All (StandsBy bounds) (places_of_piece piece) →
    piece_end (bare_piece piece) ≤ bounds.end
piece_ends bounds piece some stands =
    let j : ℕ = piece.len - 1 in
    let below : j < piece.len = omega (arith, some) in
    let d : UnitPlace = record { at = 0; wide = piece.wide; modifier = piece.modifier } in
    let at = get_or-unit_places piece j d below in
    let by = stands j d (omega (arith, below, length-unit_places piece)) in
    unit_ends piece.at piece.len piece.wide bounds.end some (rw at at by).1

-- so pieces of places within the stream are within it
pub flat_ends : (bounds : TextBounds) (pieces : List TextPiece) → All IsTextPiece pieces →
    All (StandsBy bounds) (flat_map places_of_piece pieces) →
    All (λ (piece : TextPiece). piece_end (bare_piece piece) ≤ bounds.end) pieces
flat_ends bounds [] are stand = All-nil (λ (piece : TextPiece). piece_end (bare_piece piece) ≤ bounds.end)
flat_ends bounds (piece ∷ pieces) are stand =
    let first = places_of_piece piece in
    let rest = flat_map places_of_piece pieces in
    let is = All-head IsTextPiece piece pieces are in
    All-cons (λ (piece : TextPiece). piece_end (bare_piece piece) ≤ bounds.end) piece pieces
    (piece_ends bounds piece is.units.some (subst (All (StandsBy bounds)) (take-append_seam first rest)
    (All-take (StandsBy bounds) (length first) (first ++ rest) stand)))
    (flat_ends bounds pieces (All-tail IsTextPiece piece pieces are) (subst (All (StandsBy bounds))
    (drop-append_seam first rest) (All-drop (StandsBy bounds) (length first) (first ++ rest) stand)))

-- the pieces of the front end within the stream
pub front_ends : (bounds : TextBounds) (old new : List TextPiece) (count : ℕ) → StayInStream bounds old →
    flat_pieces new ≡ take count (flat_pieces old) → All IsTextPiece new →
    All (λ (piece : TextPiece). piece_end (bare_piece piece) ≤ bounds.end) new
unfolding flat_pieces
front_ends bounds old new count stay front are =
    flat_ends bounds new are (subst (All (StandsBy bounds)) (sym front)
    (All-take (StandsBy bounds) count (flat_map places_of_piece old) (flat_stands bounds old stay)))
