-- What rows of places represent, part by part.
use Rattle.std.proofs.Common.{◌≡◌, inl, inr, ℕ, zero, suc, refl, sym, ap, subst, ◌∙◌, ◌+◌, ◌-◌, ◌*◌, ◌/◌}
use Rattle.std.proofs.Common.{◌<◌, ◌≤◌, ◌^◌, List, [], ◌∷◌, ◌++◌, length, take, drop, get_or, Some, arith}
use Rattle.std.proofs.Common.{append_assoc, length-append}
use Rattle.std.specs.Prelude.{slice_get, slice_index, slice_range, sum_by}
use Rattle.std.proofs.Math.Seq.{drop-append_seam}
use Rattle.std.proofs.Math.Nat.{add-mul, mul-zero, mul-le-mul_right, div-mul-le_self}
use Rattle.std.proofs.lemmas.Bool.{cases_lt}
use Rattle.std.proofs.lemmas.Grind.{flat_map-append}
use Rattle.std.proofs.lemmas.List.{append-nil, drop-drop, drop-take, get_or-drop, get_or-take}
use Rattle.std.proofs.lemmas.List.{length-drop, take-append-drop, take_all, take_at, take_more}
use Rattle.std.proofs.lemmas.List.Concat.{flat_map-cons, get_or-flat_map}
use Rattle.std.proofs.lemmas.List.Elements.{All-drop, All-nil, All-push}
use Rattle.std.proofs.lemmas.List.FromFn.{length-map-range_with_len, get_or-map-range_with_len}
use Rattle.std.proofs.lemmas.List.Sums.{sum_by-cons}
use Rattle.std.proofs.lemmas.Option.{get_or_from_slice_get, slice_get-get_or, slice_get_within}
use Rattle.direct_props.specs.declared.places.PlaceRow.{PlaceRow}
use Rattle.direct_props.specs.Rows.{AreRows, IsCursor, IsInRow, row_places_of, row_places}
use Rattle.doc_bits.proofs.Public.{length_part}

-- ---- rows, part by part

-- no rows have no places
pub places_of-nil : row_places_of [] ≡ []
unfolding row_places_of
places_of-nil = refl

-- the places of the first row are first
pub places_of-cons : (row : PlaceRow) (rows : List PlaceRow) → row_places_of (row ∷ rows) ≡ row_places row ++
    row_places_of rows
unfolding row_places_of
places_of-cons row rows = flat_map-cons row_places row rows

-- the places of rows behind others come behind theirs
pub places_of-append : (front back : List PlaceRow) → row_places_of (front ++ back) ≡ row_places_of front ++
    row_places_of back
unfolding row_places_of
places_of-append front back = flat_map-append row_places front back

-- a row has as many places as it says
pub length-row_places : (row : PlaceRow) → length (row_places row) ≡ row.len
length-row_places row = length-map-range_with_len (λ j. row.at + j * row.step) 0 row.len

-- one row is its places
pub places_of-one : (row : PlaceRow) → row_places_of (row ∷ []) ≡ row_places row
places_of-one row =
    places_of-cons row [] ∙ ap (λ (t : List ℕ). row_places row ++ t) places_of-nil ∙ append-nil (row_places row)

-- a row more puts its places last
pub places_of_push : (rows : List PlaceRow) (row : PlaceRow) →
    row_places_of (rows ++ row ∷ []) ≡ row_places_of rows ++ row_places row
places_of_push rows row = rw (places_of-append rows (row ∷ []), places_of-one row) refl

-- rows have as many places as they say
pub length-places_of : (rows : List PlaceRow) → length (row_places_of rows) ≡ sum_by (λ row. row.len) rows
length-places_of [] = ap length places_of-nil
length-places_of (row ∷ rows) =
    rw (
      places_of-cons row rows,
      sum_by-cons (λ (r : PlaceRow). r.len) row rows,
      length-append (row_places row) (row_places_of rows),
      length-row_places row,
      length-places_of rows,
    ) refl

-- no rows are rows
pub AreRows-nil : AreRows []
AreRows-nil = All-nil (λ row. row.at + row.len * row.step < 2 ^ 32)

-- and so are rows with one more
pub AreRows_push : (rows : List PlaceRow) (row : PlaceRow) → AreRows rows → row.at + row.len * row.step < 2 ^ 32 →
    AreRows (rows ++ row ∷ [])
AreRows_push rows row each one = All-push (λ (r : PlaceRow). r.at + r.len * r.step < 2 ^ 32) rows row each one

-- ---- a front and the rest

-- the places of rows are those of a front and those of the rest
pub places_of_parts : (rows : List PlaceRow) (number : ℕ) →
    row_places_of rows ≡ row_places_of (take number rows) ++ row_places_of (drop number rows)
places_of_parts rows number = sym (ap row_places_of (take-append-drop number rows))
    ∙ places_of-append (take number rows) (drop number rows)

-- the places of a front
pub places_of-take : (rows : List PlaceRow) (number n : ℕ) → length (row_places_of (take number rows)) ≡ n →
    row_places_of (take number rows) ≡ take n (row_places_of rows)
places_of-take rows number n long =
    sym (ap (take n) (places_of_parts rows number)
    ∙ take_at (row_places_of (take number rows)) (row_places_of (drop number rows)) n long)

-- the places behind it
pub places_of-drop : (rows : List PlaceRow) (number n : ℕ) → length (row_places_of (take number rows)) ≡ n →
    row_places_of (drop number rows) ≡ drop n (row_places_of rows)
places_of-drop rows number n long =
    sym (ap (drop n) (places_of_parts rows number)
    ∙ subst (λ (m : ℕ). drop m (row_places_of (take number rows) ++ row_places_of (drop number rows))
    ≡ row_places_of (drop number rows)) long
    (drop-append_seam (row_places_of (take number rows)) (row_places_of (drop number rows))))

-- a front and the rest are all
pub length_parts : (rows : List PlaceRow) (number : ℕ) →
    length (row_places_of (take number rows)) + length (row_places_of (drop number rows)) ≡ length (row_places_of rows)
length_parts rows number = sym (ap length (places_of_parts rows number)
    ∙ length-append (row_places_of (take number rows)) (row_places_of (drop number rows)))

-- a row more of a front
pub length_more : (rows : List PlaceRow) (k : ℕ) (d : PlaceRow) → k < length rows →
    length (row_places_of (take (k + 1) rows)) ≡ length (row_places_of (take k rows)) + (get_or rows k d).len
length_more rows k d within =
    rw (
      take_more rows k d within,
      places_of_push (take k rows) (get_or rows k d),
      length-append (row_places_of (take k rows)) (row_places (get_or rows k d)),
      length-row_places (get_or rows k d),
    ) refl

-- a row has no more places than all rows
pub row_within : (rows : List PlaceRow) (k : ℕ) (d : PlaceRow) → k < length rows →
    length (row_places_of (take k rows)) + (get_or rows k d).len ≤ length (row_places_of rows)
row_within rows k d within = omega (arith, length_more rows k d within, length_parts rows (k + 1))

-- a front of all rows
pub length_all : (rows : List PlaceRow) (k : ℕ) → length rows ≤ k →
    length (row_places_of (take k rows)) ≡ length (row_places_of rows)
length_all rows k all = ap (λ (t : List PlaceRow). length (row_places_of t)) (take_all k rows all)

-- ---- a place

-- a place before the end is in a row
pub is_in_a_row : (rows : List PlaceRow) (place number left : ℕ) → IsInRow rows place number left →
    place < length (row_places_of rows) → number < length rows
is_in_a_row rows place number left found before = elim (cases_lt number (length rows)) [
  | inl inside ↦ inside
  | inr past ↦ absurd (omega (arith, found.here, length_all rows number past))
]

-- how far into it
pub left_inside : (rows : List PlaceRow) (place number left : ℕ) (d : PlaceRow) → IsInRow rows place number left →
    number < length rows → left < (get_or rows number d).len
left_inside rows place number left d found inside =
    let there = found.inside inside in
    let is : get_or rows number d ≡ there.0 = get_or_from_slice_get rows number there.0 d there.1 in
    subst (λ (row : PlaceRow). left < row.len) (sym is) there.2

-- the place inside a row
pub place_in_row : (rows : List PlaceRow) (number left : ℕ) (row : PlaceRow) → slice_get rows number ≡ Some row →
    left < row.len
    → slice_index (row_places_of rows) (length (row_places_of (take number rows)) + left) ≡ row.at + left * row.step
unfolding row_places_of
place_in_row rows number left row is inside =
    let here : get_or rows number row ≡ row = get_or_from_slice_get rows number row row is in
    let short : left < length (row_places (get_or rows number row)) =
    subst (λ (r : PlaceRow). left < length (row_places r)) (sym here) (omega (arith, inside, length-row_places row)) in
    get_or-flat_map row_places rows number left row 0 (slice_get_within rows number row is) short
    ∙ ap (λ (r : PlaceRow). get_or (row_places r) left 0) here
    ∙ get_or-map-range_with_len (λ j. row.at + j * row.step) 0 row.len left left 0 inside (omega arith)

-- what is at the front of the rest
pub head_of_rest : {A : Type 0} (xs : List A) (number : ℕ) (x : A) → slice_get xs number ≡ Some x →
    slice_get (drop number xs) 0 ≡ Some x
head_of_rest [] zero x is = is
head_of_rest [] (suc number) x is = is
head_of_rest (y ∷ ys) zero x is = is
head_of_rest (y ∷ ys) (suc number) x is = head_of_rest ys number x is

-- ---- a cursor

-- a part that is all of a list
pub whole_part : (xs : List ℕ) (count : ℕ) → count ≡ length xs → slice_range xs 0 (0 + count) ≡ xs
whole_part xs count all = take_all (0 + count - 0) xs (omega (arith, all))

-- what is in a part of a list
pub index_part : (xs : List ℕ) (from count k : ℕ) → k < count →
    slice_index (slice_range xs from (from + count)) k ≡ slice_index xs (from + k)
index_part xs from count k below =
    get_or-take (from + count - from) (drop from xs) k 0 (omega (arith, below)) ∙ get_or-drop from xs k 0

-- a part of a list behind its first ones
pub drop_part : (xs : List ℕ) (from all count : ℕ) → count ≤ all →
    slice_range xs (from + count) (from + count + (all - count)) ≡ drop count (slice_range xs from (from + all))
drop_part xs from all count le =
    let width : from + count + (all - count) - (from + count) ≡ all - count = omega arith in
    let whole : from + all - from ≡ count + (all - count) = omega arith in
    ap (λ (n : ℕ). take n (drop (from + count) xs)) width
    ∙ ap (λ (t : List ℕ). take (all - count) t) (sym (drop-drop count from xs))
    ∙ sym (drop-take count (all - count) (drop from xs))
    ∙ ap (λ (n : ℕ). drop count (take n (drop from xs))) (sym whole)

-- a cursor at a place of rows
pub cursor_at : (rows : List PlaceRow) (skipped count number left : ℕ) → AreRows rows →
    length (row_places_of rows) < 2 ^ 32 → skipped + count ≤ length (row_places_of rows)
    → IsInRow rows skipped number left → IsCursor (drop number rows) left count
cursor_at rows skipped count number left each few within found = record {
  each = All-drop (λ (row : PlaceRow). row.at + row.len * row.step < 2 ^ 32) number rows each;
  few = omega (arith, length_parts rows number);
  within = omega (arith, length_parts rows number, found.here);
  here = λ some.
      let there = found.inside (is_in_a_row rows skipped number left found (omega (arith, some))) in
      (there.0, head_of_rest rows number there.0 there.1, there.2);
}

-- and its places
pub places_at : (rows : List PlaceRow) (skipped count number left : ℕ) → IsInRow rows skipped number left →
    slice_range (row_places_of (drop number rows)) left (left + count)
    ≡ slice_range (row_places_of rows) skipped (skipped + count)
places_at rows skipped count number left found =
    let before = length (row_places_of (take number rows)) in
    let here : before + left ≡ skipped = found.here in
    let width : left + count - left ≡ skipped + count - skipped = omega arith in
    ap (λ (t : List ℕ). slice_range t left (left + count)) (places_of-drop rows number before refl)
    ∙ ap (take (left + count - left)) (drop-drop left before (row_places_of rows)
    ∙ ap (λ (n : ℕ). drop n (row_places_of rows)) here)
    ∙ ap (λ (n : ℕ). take n (drop skipped (row_places_of rows))) width

-- a cursor has as many places as it says
pub count_is : (rows : List PlaceRow) (skipped count : ℕ) (places : List ℕ) → IsCursor rows skipped count →
    slice_range (row_places_of rows) skipped (skipped + count) ≡ places → count ≡ length places
count_is rows skipped count places cursor is =
    sym (length_part (row_places_of rows) skipped count cursor.within) ∙ ap length is

-- a cursor that has a place has one in its first row
pub first_row : (rows : List PlaceRow) (skipped count : ℕ) (d : PlaceRow) → IsCursor rows skipped count →
    0 < count → (0 < length rows) × (skipped < (get_or rows 0 d).len)
first_row rows skipped count d cursor some =
    let there = cursor.here some in
    let is : get_or rows 0 d ≡ there.0 = get_or_from_slice_get rows 0 there.0 d there.1 in (
      slice_get_within rows 0 there.0 there.1,
      subst (λ (row : PlaceRow). skipped < row.len) (sym is) there.2,
    )

-- the places of a cursor in its first row
pub first_places : (rows : List PlaceRow) (skipped count k : ℕ) (d : PlaceRow) (places : List ℕ) →
    IsCursor rows skipped count → slice_range (row_places_of rows) skipped (skipped + count) ≡ places
    → k < count → skipped + k < (get_or rows 0 d).len
    → slice_index places k ≡ (get_or rows 0 d).at + (skipped + k) * (get_or rows 0 d).step
first_places rows skipped count k d places cursor is below inside =
    let row = get_or rows 0 d in
    let some = first_row rows skipped count d cursor (omega (arith, below)) in
    let before : length (row_places_of (take 0 rows)) ≡ 0 = ap length places_of-nil in
    let place : length (row_places_of (take 0 rows)) + (skipped + k) ≡ skipped + k = omega (arith, before) in
    ap (λ (t : List ℕ). slice_index t k) (sym is)
    ∙ index_part (row_places_of rows) skipped count k below
    ∙ ap (slice_index (row_places_of rows)) (sym place)
    ∙ place_in_row rows 0 (skipped + k) row (slice_get-get_or rows 0 d some.0) inside

-- the first of them
pub first_place : (rows : List PlaceRow) (skipped count : ℕ) (d : PlaceRow) (places : List ℕ) →
    IsCursor rows skipped count → slice_range (row_places_of rows) skipped (skipped + count) ≡ places → 0 < count
    → slice_index places 0 ≡ (get_or rows 0 d).at + skipped * (get_or rows 0 d).step
first_place rows skipped count d places cursor is some =
    let row = get_or rows 0 d in
    let there = first_row rows skipped count d cursor some in
    let here : skipped + 0 ≡ skipped = omega arith in
    subst (λ (n : ℕ). slice_index places 0 ≡ row.at + n * row.step) here
    (first_places rows skipped count 0 d places cursor is some (omega (arith, there.1)))

-- places rise in a row
pub row_rises : (at step skipped k : ℕ) → at + skipped * step ≤ at + (skipped + k) * step
row_rises at step skipped k =
    omega (arith, mul-le-mul_right {m = skipped} {n = skipped + k} step (omega arith))

-- and so many of them are not above a place
pub row_up_to : (at step skipped k last : ℕ) → at + skipped * step ≤ last →
    k ≤ (last - (at + skipped * step)) / step → at + (skipped + k) * step ≤ last
row_up_to at step skipped k last first few =
    omega (
      arith,
      add-mul skipped k step,
      mul-le-mul_right {m = k} {n = (last - (at + skipped * step)) / step} step few,
      div-mul-le_self (last - (at + skipped * step)) step,
    )

-- places in a row without a step are one
pub row_stays : (at step skipped k : ℕ) → step ≡ 0 → at + (skipped + k) * step ≡ at + skipped * step
row_stays at step skipped k none =
    let zero_long : k * step ≡ 0 = ap (λ (n : ℕ). k * n) none ∙ mul-zero k in
    omega (arith, add-mul skipped k step, zero_long)

-- a number more is listed
pub listed_more : (old list new xs : List ℕ) (k : ℕ) → list ≡ old ++ take k xs → k < length xs →
    new ≡ list ++ slice_index xs k ∷ [] → new ≡ old ++ take (k + 1) xs
listed_more old list new xs k so_far within put =
    put
    ∙ ap (λ (t : List ℕ). t ++ slice_index xs k ∷ []) so_far
    ∙ append_assoc old (take k xs) (slice_index xs k ∷ [])
    ∙ ap (λ (t : List ℕ). old ++ t) (sym (take_more xs k 0 within))

-- those that are listed and those behind them
pub listed_and_rest : (old list rest xs : List ℕ) (k : ℕ) → list ≡ old ++ take k xs → rest ≡ drop k xs →
    list ++ rest ≡ old ++ xs
listed_and_rest old list rest xs k so_far is =
    ap (λ (t : List ℕ). t ++ rest) so_far
    ∙ append_assoc old (take k xs) rest
    ∙ ap (λ (t : List ℕ). old ++ (take k xs ++ t)) is
    ∙ ap (λ (t : List ℕ). old ++ t) (take-append-drop k xs)

-- all are listed
pub all_listed : (list left all : List ℕ) → list ++ left ≡ all → length left ≡ 0 → list ≡ all
all_listed list [] all so_far none = sym (append-nil list) ∙ so_far
all_listed list (x ∷ xs) all so_far none = absurd (omega (arith, none))

-- ---- a walk over places

-- what is left of places are the last ones
pub record IsRest (places left : List ℕ) : Type 0 where
  pub within : length left ≤ length places
  pub last : left ≡ drop (length places - length left) places

-- before the first step all are left
pub all_left : (places left : List ℕ) → left ≡ drop 0 places → IsRest places left
all_left places left is =
    let long : length left ≡ length places = ap length is in
    let none : 0 ≡ length places - length left = omega (arith, long) in
    record { within = omega (arith, long); last = is ∙ ap (λ (n : ℕ). drop n places) none }

-- what is at a place of the rest
pub index_rest : (places left : List ℕ) (k : ℕ) → IsRest places left →
    slice_index left k ≡ slice_index places (length places - length left + k)
index_rest places left k rest =
    ap (λ (t : List ℕ). slice_index t k) rest.last ∙ get_or-drop (length places - length left) places k 0

-- some more are passed
pub more_passed : (places left new : List ℕ) (count : ℕ) → IsRest places left → count ≤ length left →
    new ≡ drop count left
    → IsRest places new × (length places - length new ≡ length places - length left + count)
more_passed places left new count rest few is =
    let short : length new ≡ length left - count = ap length is ∙ length-drop count left in
    let passed : length places - length new ≡ length places - length left + count =
    omega (arith, short, few, rest.within) in (
      record {
        within = omega (arith, short, rest.within);
        last = is ∙ ap (drop count) rest.last ∙ drop-drop count (length places - length left) places
            ∙ ap (λ (n : ℕ). drop n places) (sym passed);
      },
      passed,
    )

-- what is so at the places that are passed and at some more is so at all of them
pub passed_so : (IsSo : ℕ → Type 0) (places left : List ℕ) (count : ℕ) → IsRest places left →
    ((k : ℕ) → k < length places - length left → IsSo (slice_index places k))
    → ((k : ℕ) → k < count → IsSo (slice_index left k))
    → (k : ℕ) → k < length places - length left + count → IsSo (slice_index places k)
passed_so IsSo places left count rest done more k below = elim (cases_lt k (length places - length left)) [
  | inl before ↦ done k before
  | inr now ↦
      let j : ℕ = k - (length places - length left) in
      let here : length places - length left + j ≡ k = omega (arith, now) in
      subst IsSo (index_rest places left j rest ∙ ap (λ (n : ℕ). slice_index places n) here)
      (more j (omega (arith, below, now)))
]
