-- The place of a CP, by the pieces.
use Rattle.std.proofs.Common.{◌≡◌, ◌∙◌, ap, ℕ, ◌<◌, ◌≤◌, ◌+◌, ◌-◌, ◌*◌, List, length, map, take, drop, get_or}
use Rattle.std.proofs.Common.{slice_get, Some, flat_map, arith, get_or-take}
use Rattle.std.specs.Prelude.{slice_index}
use Rattle.std.proofs.lemmas.Option.{slice_get_within, slice_get-get_or, get_or_from_slice_get}
use Rattle.std.proofs.lemmas.List.{get_or-map, get_or-drop}
use Rattle.std.proofs.lemmas.List.Concat.{get_or-flat_map}
use Rattle.piece_table.specs.Piece.{TextPiece, UnitPlace, unit_bytes, places_of_piece, flat_pieces, place_of_cp}
use Rattle.piece_table.specs.Piece.{total_length}
use Rattle.piece_table.proofs.Public.{length-unit_places, length-flat_pieces, get_or-unit_places}
use Rattle.file_rules.proofs.Public.{total-within}

-- the place of unit j of a piece
abbrev pub place_at : TextPiece → ℕ → UnitPlace
place_at piece j = record { at = piece.at + j * unit_bytes piece.wide; wide = piece.wide; modifier = piece.modifier }

-- it is that of the CP so many units after the pieces before
pub place_in_piece : (pieces : List TextPiece) (i j cp : ℕ) (piece : TextPiece) → slice_get pieces i ≡ Some piece →
    j < piece.len → cp ≡ total_length (take i pieces) + j → place_of_cp pieces cp ≡ Some (place_at piece j)
unfolding flat_pieces
place_in_piece pieces i j cp piece here below cp_is =
    let d = place_at piece j in
    let within = slice_get_within pieces i piece here in
    let it : get_or pieces i piece ≡ piece = get_or_from_slice_get pieces i piece piece here in
    let len : length (places_of_piece (get_or pieces i piece)) ≡ piece.len =
    ap (λ (p : TextPiece). length (places_of_piece p)) it ∙ length-unit_places piece in
    let front : length (flat_map places_of_piece (take i pieces)) ≡ total_length (take i pieces) =
    length-flat_pieces (take i pieces) in
    let inside : j < length (places_of_piece (get_or pieces i piece)) = omega arith in
    let got = get_or-flat_map places_of_piece pieces i j piece d within inside in
    let cp_at : cp ≡ length (flat_map places_of_piece (take i pieces)) + j = omega arith in
    let value : get_or (flat_map places_of_piece pieces) cp d ≡ d = ap (λ n. get_or (flat_map places_of_piece pieces) n
    d)
    cp_at ∙ (got ∙ (ap (λ (p : TextPiece). get_or (places_of_piece p) j d) it ∙ get_or-unit_places piece j d below)) in
    let all : length (flat_map places_of_piece pieces) ≡ total_length pieces = length-flat_pieces pieces in
    let bound = total-within pieces i piece here in
    let there : cp < length (flat_map places_of_piece pieces) = omega (arith, all, bound, cp_is) in
    slice_get-get_or (flat_map places_of_piece pieces) cp d there ∙ ap Some value

-- what is listed by CP of the places, at a CP
pub read_at_place : (f : UnitPlace → ℕ) (pieces : List TextPiece) (cp count : ℕ) (place : UnitPlace) →
    place_of_cp pieces cp ≡ Some place → cp < count → slice_index (take count (map f (flat_pieces pieces))) cp ≡ f place
read_at_place f pieces cp count place here below =
    let flat = flat_pieces pieces in
    let within = slice_get_within flat cp place here in
    get_or-take count (map f flat) cp 0 below ∙ (get_or-map f flat cp place 0 within ∙ ap f (get_or_from_slice_get
    flat cp place place here))

-- what is in a part of a list that begins at a CP
pub part_at : (all part : List ℕ) (begin cp : ℕ) → begin ≤ cp → part ≡ drop begin all →
    slice_index part (cp - begin) ≡ slice_index all cp
part_at all part begin cp behind is =
    let there : begin + (cp - begin) ≡ cp = omega (arith, behind) in
    ap (λ l. slice_index l (cp - begin)) is ∙ (get_or-drop begin all (cp - begin) 0 ∙ ap (λ n. slice_index all n) there)
