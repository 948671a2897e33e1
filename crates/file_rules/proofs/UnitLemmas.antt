-- The units of pieces, one after the other.
use Rattle.std.proofs.Common.{◌≡◌, ◌<◌, ◌≤◌, ◌^◌, slice_set, arith, length, ℕ, ◌+◌, ◌*◌, List, [], ◌∷◌, ◌++◌, map}
use Rattle.std.proofs.Common.{take, flat_map, slice_get, slice_index, Option, Some, None, Bool, true, false}
use Rattle.std.proofs.Common.{if◌then◌else◌, refl, sym, ap, ◌∙◌, append_assoc, zero-add, add-zero, add-one, zero, suc}
use Rattle.std.specs.List.{range_with_len}
use Rattle.std.proofs.lemmas.List.{map-append, append-nil, take_more, length-map}
use Rattle.piece_table.proofs.Public.{length-flat_pieces}
use Rattle.std.proofs.lemmas.List.FromFn.{map-range_with_len_more}
use Rattle.std.proofs.lemmas.Option.{slice_get_within, get_or_from_slice_get}
use Rattle.std.proofs.lemmas.Grind.{flat_map-append, take-set_at}
use Rattle.std.proofs.lemmas.List.Sums.{sum_by-take-le, sum_by_more, sum_by_more_le}
use Rattle.doc_bits.specs.Number.{u16_at}
use Rattle.text_codes.specs.Compressed.{compressed_unit}
use Rattle.piece_table.specs.Piece.{TextPiece, UnitPlace, bare_piece, unit_bytes, places_of_piece, flat_pieces}
use Rattle.piece_table.specs.Piece.{total_length}
use Rattle.file_rules.specs.Units.{unit_at, wide_unit, narrow_unit, text_of_pieces, unmodified_piece, unit_places_in}
use Rattle.direct_props.specs.declared.places.PlaceRow.{PlaceRow}
use Rattle.direct_props.specs.Rows.{row_places_of, row_places}
use Rattle.direct_props.proofs.Public.{places_of_push}
use Rattle.piece_table.specs.declared.pieces.Piece.{Piece}
use Rattle.std.specs.Option.{option_map}
use Rattle.doc_bits.proofs.Public.{map-map}

-- the element after the first of a run
run-more : {A : Type 0} (f : ℕ → A) (j : ℕ) (now start new : List A) → new ≡ now ++ f j ∷ [] → now ≡ start ++ map f
    (range_with_len 0 j) → new ≡ start ++ map f (range_with_len 0 (j + 1))
run-more f j now start new pushed so_far =
    pushed ∙ (ap (λ xs. xs ++ f j ∷ []) so_far ∙ (append_assoc start (map f (range_with_len 0 j)) (f j ∷ []) ∙ ap
    (λ xs. start ++ xs) (sym (map-range_with_len_more f 0 j j (zero-add j)))))

-- the same put into a list that has its length
pub run-put : (f : ℕ → ℕ) (at j x : ℕ) (old now : List ℕ) → at + j < length now → x ≡ f j → take (at + j) now ≡ take
    at old ++ map f (range_with_len 0 j) → take (at + (j + 1)) (slice_set now (at + j) x) ≡ take at old ++ map f
    (range_with_len 0 (j + 1))
run-put f at j x old now below x_is so_far =
    run-more f j (take (at + j) now) (take at old) (take (at + (j + 1)) (slice_set now (at + j) x)) (take-set_at now
    (at + j) (at + (j + 1)) x (omega arith) below ∙ ap (λ y. take (at + j) now ++ y ∷ []) x_is) so_far

-- the elements after the first of a run
pub run-join : (f g : ℕ → ℕ) (n m : ℕ) → ((j : ℕ) → g j ≡ f (n + j)) → map f (range_with_len 0 (n + m)) ≡ map f
    (range_with_len 0 n) ++ map g (range_with_len 0 m)
run-join f g n zero same = ap (λ k. map f (range_with_len 0 k)) (add-zero n) ∙ sym
    (append-nil (map f (range_with_len 0 n)))
run-join f g n (suc m) same =
    let first = map f (range_with_len 0 n) in
    let next = map g (range_with_len 0 m) in
    let len : n + suc m ≡ n + m + 1 = omega arith in
    let last : next ++ f (n + m) ∷ [] ≡ map g (range_with_len 0 (suc m)) = ap (λ y. next ++ y ∷ []) (sym (same m)) ∙
    (sym (map-range_with_len_more g 0 m m (zero-add m)) ∙ ap (λ k. map g (range_with_len 0 k)) (add-one m)) in
    ap (λ k. map f (range_with_len 0 k)) len ∙ (map-range_with_len_more f 0 (n + m) (n + m) (zero-add (n + m))
    ∙ (ap (λ xs. xs ++ f (n + m) ∷ []) (run-join f g n m same) ∙ (append_assoc first next (f (n + m) ∷ []) ∙ ap
    (λ xs. first ++ xs) last)))

-- the length of the first pieces and of one more, which is at most that of all
pub total-more : (pieces : List TextPiece) (i : ℕ) (piece : TextPiece) → slice_get pieces i ≡ Some piece →
    total_length (take (i + 1) pieces) ≡ total_length (take i pieces) + piece.len
total-more pieces i piece h =
    let it = get_or_from_slice_get pieces i piece piece h in
    sum_by_more (λ p. p.len) pieces i piece (slice_get_within pieces i piece h) ∙ ap (λ (p : TextPiece). total_length
    (take i pieces) + p.len) it

pub total-within : (pieces : List TextPiece) (i : ℕ) (piece : TextPiece) → slice_get pieces i ≡ Some piece →
    total_length (take i pieces) + piece.len ≤ total_length pieces
total-within pieces i piece h =
    rw (get_or_from_slice_get pieces i piece piece h) at (sum_by_more_le (λ p. p.len) pieces i piece (slice_get_within
    pieces i piece h))

-- what is read at the places of no pieces
pub map-flat_pieces-none : {B : Type 0} (f : UnitPlace → B) → map f (flat_pieces []) ≡ []
unfolding flat_pieces
map-flat_pieces-none f = refl

-- what is read at the places of the first pieces, and of one more
pub map-flat_pieces-more : {B : Type 0} (f : UnitPlace → B) (pieces : List TextPiece) (i : ℕ) (piece : TextPiece) →
    slice_get pieces i ≡ Some piece → map f (flat_pieces (take (i + 1) pieces)) ≡ map f (flat_pieces (take i pieces))
    ++ map f (places_of_piece piece)
unfolding flat_pieces
map-flat_pieces-more f pieces i piece h =
    let there = take_more pieces i piece (slice_get_within pieces i piece h) in
    let it = get_or_from_slice_get pieces i piece piece h in
    rw (there, it, flat_map-append places_of_piece (take i pieces) (piece ∷ []), append-nil (places_of_piece piece))
    (map-append f (flat_map places_of_piece (take i pieces)) (places_of_piece piece))

-- the places of a piece's units
pub places-step : (piece : TextPiece) → map (λ place. place.at) (places_of_piece piece) ≡ map (λ j. piece.at + j *
    unit_bytes piece.wide) (range_with_len 0 piece.len)
places-step piece = map-map {A = ℕ} {B = UnitPlace} (λ place. place.at) _ (range_with_len 0 piece.len)

-- one row more represents the places of one piece more
pub rows_more : (rows : List PlaceRow) (row : PlaceRow) (pieces : List TextPiece) (i : ℕ) (piece : TextPiece) →
    slice_get pieces i ≡ Some piece →
    row_places_of rows ≡ unit_places_in (take i pieces) → row_places row ≡ map (λ place. place.at) (places_of_piece
    piece) →
    row_places_of (rows ++ row ∷ []) ≡ unit_places_in (take (i + 1) pieces)
rows_more rows row pieces i piece here so_far same =
    places_of_push rows row ∙ (ap (λ l. l ++ row_places row) so_far ∙ (ap (λ l. unit_places_in (take i pieces) ++ l)
    same
    ∙ sym (map-flat_pieces-more (λ place. place.at) pieces i piece here)))

-- the places of the first pieces are so many at most
pub few_places : (pieces : List TextPiece) (i : ℕ) (places : List ℕ) → places ≡ unit_places_in (take i pieces) →
    total_length pieces ≤ 500001 → length places < 2 ^ 32
few_places pieces i places same bound =
    let flat = flat_pieces (take i pieces) in
    omega (
      arith,
      ap length same,
      length-map flat (λ place. place.at),
      length-flat_pieces (take i pieces),
      sum_by-take-le (λ p. p.len) pieces i,
      bound,
    )

-- unit j of a piece whose units have this width
either_unit : List ℕ → ℕ → Bool → ℕ → ℕ
either_unit wd at wide j = if wide then u16_at wd (at + j * unit_bytes wide) else compressed_unit (slice_index wd
    (at + j * unit_bytes wide))

units-either : (wd : List ℕ) (piece : TextPiece) → map (unit_at wd) (places_of_piece piece) ≡ map (either_unit wd
    piece.at
    piece.wide) (range_with_len 0 piece.len)
unfolding either_unit
units-either wd piece = map-map {A = ℕ} {B = UnitPlace} (unit_at wd) _ (range_with_len 0 piece.len)

-- the modifier says nothing of the places, and nothing of the units
pub places-any : (piece : TextPiece) → map (λ place. place.at) (places_of_piece (unmodified_piece (bare_piece piece))) ≡
    map
    (λ place. place.at) (places_of_piece piece)
places-any piece = places-step (unmodified_piece (bare_piece piece)) ∙ sym (places-step piece)

pub units-any : (wd : List ℕ) (piece : TextPiece) → map (unit_at wd) (places_of_piece (unmodified_piece (bare_piece
    piece))) ≡
    map (unit_at wd) (places_of_piece piece)
units-any wd piece = units-either wd (unmodified_piece (bare_piece piece)) ∙ sym (units-either wd piece)

-- the piece that is read
pub piece_read : (o : Option TextPiece) (piece : Piece) → option_map bare_piece o ≡ Some piece → (whole : TextPiece) ×
    ((o ≡ Some whole) × (bare_piece whole ≡ piece))
piece_read None piece e = absurd (cc (e))
piece_read (Some whole) piece e = let same : bare_piece whole ≡ piece = cc (e) in (whole, (refl, same))

-- the units of a piece of units of two bytes
pub units-wide : (wd : List ℕ) (piece : TextPiece) → piece.wide ≡ true → map (unit_at wd) (places_of_piece piece) ≡ map
    (wide_unit wd piece.at) (range_with_len 0 piece.len)
unfolding either_unit
units-wide wd piece wide = units-either wd piece ∙ ap (λ b. map (either_unit wd piece.at b) (range_with_len 0
    piece.len)) wide

-- the same of one byte
pub units-narrow : (wd : List ℕ) (piece : TextPiece) → piece.wide ≡ false → map (unit_at wd) (places_of_piece piece) ≡
    map
    (narrow_unit wd piece.at) (range_with_len 0 piece.len)
unfolding either_unit
units-narrow wd piece narrow = units-either wd piece ∙ ap (λ b. map (either_unit wd piece.at b) (range_with_len 0
    piece.len)) narrow

-- a text has a unit and a place for each CP of its pieces
pub length-text_units : (wd : List ℕ) (pieces : List TextPiece) → length (text_of_pieces wd pieces).units ≡ total_length
    pieces
length-text_units wd pieces = length-map (flat_pieces pieces) (unit_at wd) ∙ length-flat_pieces pieces

pub length-text_places : (wd : List ℕ) (pieces : List TextPiece) → length (text_of_pieces wd pieces).places ≡
    total_length
    pieces
length-text_places wd pieces = length-map (flat_pieces pieces) (λ place. place.at) ∙ length-flat_pieces pieces
