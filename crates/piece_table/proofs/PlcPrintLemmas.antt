-- The CPs and Pcds that are printed.
use Rattle.std.proofs.Common.{◌≡◌, ℕ, zero, suc, ◌+◌, ◌*◌, ◌<◌, ◌≤◌, List, [], ◌∷◌, ◌++◌, length, map, flat_map, take}
use Rattle.std.proofs.Common.{All, get_or, slice_index, sym, ap, ◌∙◌, arith, length-append, append_assoc}
use Rattle.std.specs.List.{range_with_len, sum}
use Rattle.std.proofs.Math.ListN.{get_or-map, length-map}
use Rattle.std.proofs.lemmas.List.{append-nil, take_more, take_all, get_or_default}
use Rattle.std.proofs.lemmas.List.Sums.{sum_by-append, sum_by-cons}
use Rattle.std.proofs.lemmas.List.FromFn.{length-map-range_with_len, map-range_with_len_more}
use Rattle.std.proofs.lemmas.Grind.{flat_map-append}
use Rattle.doc_bits.specs.Number.{number_bytes}
use Rattle.doc_bits.proofs.Public.{length-number_bytes, length-numbers, length-joined}
use Rattle.std.proofs.lemmas.List.Elements.{All-nil, All-cons}
use Rattle.piece_table.specs.declared.pieces.Piece.{Piece}
use Rattle.piece_table.specs.declared.pieces.Entry.{Entry}
use Rattle.piece_table.specs.Clx.{pcdt_bytes}
use Rattle.piece_table.specs.Printing.{cps_of, plc_bytes, pcd_bytes, fc_number}
use Rattle.piece_table.specs.PrintSteps.{lens_of, pcds_of}

-- the sum of one element more
pub sum_more : (lens : List ℕ) (k x : ℕ) → k < length lens → get_or lens k x ≡ x → sum (take (k + 1) lens) ≡ sum
    (take k lens) + x
sum_more lens k x low is =
    let more : take (k + 1) lens ≡ take k lens ++ x ∷ [] = take_more lens k x low ∙ ap (λ y. take k lens ++ y ∷ []) is
    in
    omega (arith, ap sum more, sum_by-append (λ (y : ℕ). y) (take k lens) (x ∷ []), sum_by-cons (λ (y : ℕ). y) x [])

pub sum_front : (lens : List ℕ) (k : ℕ) → sum (take k lens) ≤ sum lens
sum_front [] zero = omega arith
sum_front [] (suc k) = omega arith
sum_front (x ∷ lens) zero = omega arith
sum_front (x ∷ lens) (suc k) = omega (
  arith,
  sum_front lens k,
  sum_by-cons (λ (y : ℕ). y) x (take k lens),
  sum_by-cons (λ (y : ℕ). y) x lens,
)

pub sum_all : (lens : List ℕ) (k : ℕ) → k ≡ length lens → sum (take k lens) ≡ sum lens
sum_all lens k all = ap sum (take_all k lens (omega arith))

-- an element of a list that is seen through a view
pub seen_at : {A : Type 0} (view : A → ℕ) (xs : List A) (k : ℕ) (x d : A) → k < length xs → x ≡ get_or xs k d →
    get_or (map view xs) k (view x) ≡ view x
seen_at view xs k x d low is = get_or-map view xs k x ∙ ap view (get_or_default xs k x d low ∙ sym is)

-- one number more
pub numbers_more : (f : ℕ → ℕ) (k : ℕ) → flat_map (number_bytes 4) (map f (range_with_len 0 (k + 1))) ≡ flat_map
    (number_bytes 4) (map f (range_with_len 0 k)) ++ number_bytes 4 (f k)
numbers_more f k =
    let before = map f (range_with_len 0 k) in
    ap (flat_map (number_bytes 4)) (map-range_with_len_more f 0 k k (omega arith))
    ∙ (flat_map-append (number_bytes 4) before (f k ∷ []) ∙ ap (λ l. flat_map (number_bytes 4) before ++ l)
    (append-nil (number_bytes 4 (f k))))

-- the length of the table
pub length-plc_bytes : (lens : List ℕ) (pcds : List (List ℕ)) → length pcds ≡ length lens →
    All (λ pcd. length pcd ≡ 8) pcds → length (plc_bytes lens pcds) ≡ 4 + 12 * length lens
length-plc_bytes lens pcds count sized =
    let cps = length-map-range_with_len (λ k. sum (take k lens)) 0 (length lens + 1) in
    omega (
      arith,
      length-append (flat_map (number_bytes 4) (cps_of lens)) (flat_map (λ pcd. pcd) pcds),
      length-numbers (cps_of lens),
      length-joined 8 pcds sized,
    )

pub length-pcd_bytes : (piece : Piece) (prm : ℕ) → length (pcd_bytes piece prm) ≡ 8
length-pcd_bytes piece prm =
    let fc = number_bytes 4 (fc_number piece) in
    let word = number_bytes 2 prm in
    omega (
      arith,
      length-append (number_bytes 2 0) (fc ++ word),
      length-append fc word,
      length-number_bytes 2 0,
      length-number_bytes 4 (fc_number piece),
      length-number_bytes 2 prm,
    )

-- what holds of each image holds of all
pub All-mapped : {A B : Type 0} (f : A → B) (P : B → Type 0) (xs : List A) → ((x : A) → P (f x)) → All P (map f xs)
All-mapped f P [] each = All-nil P
All-mapped f P (x ∷ xs) each = All-cons P (f x) (map f xs) (each x) (All-mapped f P xs each)

-- the parts of a Pcdt, one after the other
pub pcdt_joined : (old cps pcds : List ℕ) (size : ℕ) → size ≡ length (cps ++ pcds) →
    (((old ++ 2 ∷ []) ++ number_bytes 4 size) ++ cps) ++ pcds ≡ old ++ pcdt_bytes (cps ++ pcds)
pcdt_joined old cps pcds size is =
    let count = number_bytes 4 size in
    let a = append_assoc ((old ++ 2 ∷ []) ++ count) cps pcds in
    let b = append_assoc (old ++ 2 ∷ []) count (cps ++ pcds) in
    let c = append_assoc old (2 ∷ []) (count ++ (cps ++ pcds)) in
    a ∙ (b ∙ (c ∙ ap (λ n. old ++ (2 ∷ (number_bytes 4 n ++ (cps ++ pcds)))) is))

pub pcdt_printed : (old : List ℕ) (entries : List Entry) (prms : List ℕ) (size : ℕ) → size ≡ 4 + 12 * length entries →
    (((old ++ 2 ∷ []) ++ number_bytes 4 size) ++ flat_map (number_bytes 4) (cps_of (lens_of entries))) ++ flat_map
    (λ pcd. pcd) (pcds_of entries prms) ≡ old ++ pcdt_bytes (plc_bytes (lens_of entries) (pcds_of entries prms))
pcdt_printed old entries prms size is =
    let lens = length-map entries (λ (entry : Entry). entry.piece.len) in
    let pcds = length-map entries (λ (entry : Entry). pcd_bytes entry.piece (slice_index prms entry.modifier)) in
    let sized = All-mapped (λ (entry : Entry). pcd_bytes entry.piece (slice_index prms entry.modifier)) (λ pcd. length
    pcd ≡ 8) entries (λ entry. length-pcd_bytes entry.piece (slice_index prms entry.modifier)) in
    pcdt_joined old (flat_map (number_bytes 4) (cps_of (lens_of entries))) (flat_map (λ pcd. pcd) (pcds_of entries
    prms)) size
    (omega (arith, length-plc_bytes (lens_of entries) (pcds_of entries prms) (omega arith) sized))
