-- Bytes of sectors, parts, tables and fields, by their offsets.
use Rattle.std.proofs.Common.{◌≡◌, ℕ, zero, suc, ◌+◌, ◌-◌, ◌*◌, ◌^◌, ◌<◌, ◌≤◌, List, [], ◌∷◌, ◌++◌, length, get_or}
use Rattle.std.proofs.Common.{slice_index, take, drop, replicate, sum, refl, sym, ap, ◌∙◌, subst, arith}
use Rattle.std.proofs.Common.{length-append, length-take, length-drop}
use Rattle.std.specs.List.{flat_map, range_with_len, sum_by}
use Rattle.std.proofs.Math.Seq.{take-add}
use Rattle.std.proofs.lemmas.List.{get_or_append_left, get_or-append_right, get_or-take, get_or-drop, drop-drop}
use Rattle.std.proofs.lemmas.List.{ext_get_or, take_all, length-replicate}
use Rattle.std.proofs.lemmas.List.Concat.{get_or-flat_map, length-flat_map}
use Rattle.std.proofs.lemmas.List.Sums.{sum_by-cons, sum_by_more}
use Rattle.doc_bits.specs.Number.{number_at, number_bytes}
use Rattle.doc_bits.proofs.Public.{number_at-after, number_at-number_bytes, length-number_bytes}
use Rattle.cfb_sectors.specs.Header.{sector_bytes}
use Rattle.cfb_layout.specs.Sectors.{units_for, filled, padded_to_unit, chain_start}
use Rattle.cfb_layout.specs.declared.fields.Field.{Field}
use Rattle.cfb_layout.specs.declared.fields.Field.TheVariants.{Long}
use Rattle.cfb_layout.specs.Fields.{width_of, field_value, field_bytes, fields_bytes}

-- sectors in a row, joined, are the bytes from the first one on
pub run_bytes : (base unit : ℕ) (bytes : List ℕ) (start count : ℕ) → flat_map (sector_bytes base unit bytes)
    (range_with_len start count) ≡ take (unit * count) (drop (base + start * unit) bytes)
run_bytes base unit bytes start zero =
    let none : unit * 0 ≡ 0 = grind arith in
    rw none refl
run_bytes base unit bytes start (suc count) =
    let at = base + start * unit in
    let len : at + unit - at ≡ unit = omega arith in
    let all : unit * suc count ≡ unit + unit * count = grind arith in
    let next : base + (start + 1) * unit ≡ at + unit = grind arith in
    let rest = run_bytes base unit bytes (start + 1) count in
    let first : take (at + unit - at) (drop at bytes) ≡ take unit (drop at bytes) = ap (λ n. take n (drop at bytes))
    len in
    let second : drop (base + (start + 1) * unit) bytes ≡ drop unit (drop at bytes) = ap (λ n. drop n bytes) next ∙
    sym (drop-drop unit at bytes) in
    ap (λ xs. xs ++ flat_map (sector_bytes base unit bytes) (range_with_len (start + 1) count)) first
    ∙ (ap (λ xs. take unit (drop at bytes) ++ xs) (rest ∙ ap (λ xs. take (unit * count) xs) second)
    ∙ (sym (take-add unit (unit * count) (drop at bytes)) ∙ ap (λ n. take n (drop at bytes)) (sym all)))

-- lists that have so many units each
pub record HaveCounts {X : Type 0} (f : X → List ℕ) (unit : ℕ) (counts : List ℕ) (xs : List X) (d : X) : Type 0 where
  pub len : length xs ≡ length counts
  pub each : (i : ℕ) → i < length xs → length (f (get_or xs i d)) ≡ unit * slice_index counts i

-- the parts before the i-th one
pub parts_before : {X : Type 0} (f : X → List ℕ) (unit : ℕ) (counts : List ℕ) (xs : List X) (d : X) (i : ℕ) →
    HaveCounts f unit counts xs d → i ≤ length xs → sum_by (λ x. length (f x)) (take i xs) ≡ unit * chain_start counts i
parts_before f unit counts xs d zero h low = let e : unit * 0 ≡ 0 = grind arith in sym e
parts_before f unit counts xs d (suc i) h low =
    let len = h.len in
    let less : i < length xs = omega arith in
    let before = parts_before f unit counts xs d i h (omega arith) in
    let one : i + 1 ≡ suc i = omega arith in
    let a = sum_by_more (λ x. length (f x)) xs i d less in
    let b = sum_by_more (λ (x : ℕ). x) counts i 0 (omega arith) in
    let here = h.each i less in
    let all : unit * (chain_start counts i + slice_index counts i) ≡ unit * chain_start counts i + unit * slice_index
    counts
    i = grind arith in
    subst (λ k. sum_by (λ x. length (f x)) (take k xs) ≡ unit * chain_start counts k) one
    (a ∙ (let sums : sum_by (λ x. length (f x)) (take i xs) + length (f (get_or xs i d)) ≡ unit * chain_start counts i +
    unit * slice_index counts i = omega arith in
    sums ∙ (sym all ∙ ap (λ n. unit * n) (sym b))))

-- all parts
pub length-parts : {X : Type 0} (f : X → List ℕ) (unit : ℕ) (counts : List ℕ) (xs : List X) (d : X) →
    HaveCounts f unit counts xs d → length (flat_map f xs) ≡ unit * sum counts
length-parts f unit counts xs d h =
    let len = h.len in
    let all = parts_before f unit counts xs d (length xs) h (omega arith) in
    let a : take (length xs) xs ≡ xs = take_all (length xs) xs (omega arith) in
    let b : take (length xs) counts ≡ counts = take_all (length xs) counts (omega arith) in
    length-flat_map f xs ∙ (ap (λ ys. sum_by (λ x. length (f x)) ys) (sym a) ∙ (all ∙ ap (λ ys. unit * sum ys) b))

-- a byte of the i-th part
pub parts_at : {X : Type 0} (f : X → List ℕ) (unit : ℕ) (counts : List ℕ) (xs : List X) (d : X) (i x at : ℕ) →
    HaveCounts f unit counts xs d → i < length xs → x < length (f (get_or xs i d)) → at ≡ unit * chain_start counts i +
    x → slice_index (flat_map f xs) at ≡ slice_index (f (get_or xs i d)) x
parts_at f unit counts xs d i x at h low less here =
    let before = length-flat_map f (take i xs) ∙ parts_before f unit counts xs d i h (omega arith) in
    let place : at ≡ length (flat_map f (take i xs)) + x = omega arith in
    ap (λ k. slice_index (flat_map f xs) k) place ∙ get_or-flat_map f xs i x d 0 low less

-- a byte of the k-th of blocks of one width
pub blocks_at : (f : ℕ → List ℕ) (width start n k x at : ℕ) → ((j : ℕ) → length (f j) ≡ width) → k < n → x < width →
    at ≡ width * k + x → slice_index (flat_map f (range_with_len start n)) at ≡ slice_index (f (start + k)) x
blocks_at f width start zero k x at len h less here = absurd (omega arith)
blocks_at f width start (suc n) zero x at len h less here =
    let one = len start in
    let none : width * 0 ≡ 0 = grind arith in
    let place : at ≡ x = omega arith in
    let same : start ≡ start + 0 = omega arith in
    get_or_append_left (f start) (flat_map f (range_with_len (start + 1) n)) 0 at (omega arith)
    ∙ (ap (λ k. slice_index (f start) k) place ∙ ap (λ s. slice_index (f s) x) same)
blocks_at f width start (suc n) (suc k) x at len h less here =
    let all : width * suc k ≡ width + width * k = grind arith in
    let same : start + 1 + k ≡ start + suc k = omega arith in
    get_or-append_right (f start) (flat_map f (range_with_len (start + 1) n)) width at 0 (len start) (omega arith)
    ∙ (blocks_at f width (start + 1) n k x (at - width) len (omega arith) less (omega arith) ∙ ap (λ s. slice_index
    (f s) x) same)

-- the length of such blocks
pub length-blocks : (f : ℕ → List ℕ) (width start n : ℕ) → ((j : ℕ) → length (f j) ≡ width) →
    length (flat_map f (range_with_len start n)) ≡ width * n
length-blocks f width start zero len = let none : width * 0 ≡ 0 = grind arith in sym none
length-blocks f width start (suc n) len =
    let all : width * suc n ≡ width + width * n = grind arith in
    let a = length-append (f start) (flat_map f (range_with_len (start + 1) n)) in
    let b = len start in
    let c = length-blocks f width (start + 1) n len in
    omega arith

-- a range of a list, by its elements
pub range_is : (xs ys : List ℕ) (a : ℕ) → a + length ys ≤ length xs → ((i : ℕ) → i < length ys →
    slice_index xs (a + i) ≡ slice_index ys i) → take (length ys) (drop a xs) ≡ ys
range_is xs ys a room each =
    let len = length-take (length ys) (drop a xs) in
    let more = length-drop a xs in
    ext_get_or 0 (take (length ys) (drop a xs)) ys (omega arith) (λ i h.
    let low : i < length ys = omega arith in
    get_or-take (length ys) (drop a xs) i 0 low ∙ (get_or-drop a xs i 0 ∙ each i low))

-- an entry of a table of numbers
pub entry_at : (width : ℕ) (entries : List ℕ) (s at : ℕ) → s < length entries → slice_index entries s < 256 ^ width →
    at ≡ width * s → number_at (flat_map (number_bytes width) entries) at width ≡ slice_index entries s
entry_at width [] s at h low here = absurd (omega arith)
entry_at width (e ∷ entries) zero at h low here =
    let none : width * 0 ≡ 0 = grind arith in
    let place : at ≡ 0 = omega arith in
    ap (λ k. number_at (number_bytes width e ++ flat_map (number_bytes width) entries) k width) place ∙
    number_at-number_bytes width e (flat_map (number_bytes width) entries) low
entry_at width (e ∷ entries) (suc s) at h low here =
    let all : width * suc s ≡ width + width * s = grind arith in
    let len = length-number_bytes width e in
    let place : at ≡ length (number_bytes width e) + (at - width) = omega arith in
    ap (λ k. number_at (number_bytes width e ++ flat_map (number_bytes width) entries) k width) place
    ∙ (number_at-after (number_bytes width e) (flat_map (number_bytes width) entries) (at - width) width
    ∙ entry_at width entries s (at - width) (omega arith) low (omega arith))

-- the length of a table of numbers
pub length-table : (width : ℕ) (entries : List ℕ) → length (flat_map (number_bytes width) entries) ≡ width * length
    entries
length-table width [] = let none : width * 0 ≡ 0 = grind arith in sym none
length-table width (e ∷ entries) =
    let all : width * suc (length entries) ≡ width + width * length entries = grind arith in
    let a = length-append (number_bytes width e) (flat_map (number_bytes width) entries) in
    let b = length-number_bytes width e in
    let c = length-table width entries in
    omega arith

abbrev pub widths : List Field → ℕ
widths = sum_by width_of

abbrev pub no_field : Field
no_field = Long 0

pub length-fields_bytes : (fields : List Field) → length (fields_bytes fields) ≡ widths fields
unfolding fields_bytes
length-fields_bytes [] = refl
length-fields_bytes (f ∷ fields) =
    let a = length-append (field_bytes f) (flat_map field_bytes fields) in
    let b = length-number_bytes (width_of f) (field_value f) in
    let c = length-fields_bytes fields in
    let d = sum_by-cons width_of f fields in
    omega arith

-- a field is read at the widths before it
pub field_at : (fields : List Field) (i at : ℕ) → i < length fields → at ≡ widths (take i fields) →
    field_value (get_or fields i no_field) < 256 ^ (width_of (get_or fields i no_field)) →
    number_at (fields_bytes fields) at (width_of (get_or fields i no_field)) ≡ field_value (get_or fields i no_field)
unfolding fields_bytes
field_at [] i at h here low = absurd (omega arith)
field_at (f ∷ fields) zero at h here low =
    ap (λ k. number_at (field_bytes f ++ flat_map field_bytes fields) k (width_of f)) here ∙ number_at-number_bytes
    (width_of f) (field_value f) (flat_map field_bytes fields) low
field_at (f ∷ fields) (suc i) at h here low =
    let d = sum_by-cons width_of f (take i fields) in
    let len = length-number_bytes (width_of f) (field_value f) in
    let place : at ≡ length (field_bytes f) + (at - (width_of f)) = omega arith in
    ap (λ k. number_at (field_bytes f ++ flat_map field_bytes fields) k (width_of (get_or fields i no_field))) place
    ∙ (number_at-after (field_bytes f) (flat_map field_bytes fields) (at - (width_of f)) (width_of (get_or fields i
    no_field))
    ∙ field_at fields i (at - (width_of f)) (omega arith) (omega arith) low)

-- how long a padded list is
pub length-padded : (unit filler : ℕ) (xs : List ℕ) → length xs ≤ units_for unit (length xs) * unit →
    length (padded_to_unit unit filler xs) ≡ units_for unit (length xs) * unit
unfolding padded_to_unit
length-padded unit filler xs room =
    let a = length-append xs (replicate (units_for unit (length xs) * unit - length xs) filler) in
    let b = length-replicate (units_for unit (length xs) * unit - length xs) filler in
    omega arith

pub padded_at : (unit filler : ℕ) (xs : List ℕ) (i : ℕ) → i < length xs → slice_index (padded_to_unit unit filler xs) i
    ≡
    slice_index xs i
unfolding padded_to_unit
padded_at unit filler xs i h = get_or_append_left xs (replicate (units_for unit (length xs) * unit - length xs)
    filler) 0 i h

pub length-filled : (len filler : ℕ) (xs : List ℕ) → length xs ≤ len → length (filled len filler xs) ≡ len
unfolding filled
length-filled len filler xs room =
    let a = length-append xs (replicate (len - length xs) filler) in
    let b = length-replicate (len - length xs) filler in
    omega arith

pub filled_at : (len filler : ℕ) (xs : List ℕ) (i : ℕ) → i < length xs → slice_index (filled len filler xs) i ≡
    slice_index xs i
unfolding filled
filled_at len filler xs i h = get_or_append_left xs (replicate (len - length xs) filler) 0 i h
