-- The written set, step by step: pairs and values one more, and the lengths of padded values.
use Rattle.std.proofs.Common.{◌≡◌, ◌∙◌, ℕ, zero, suc, ◌+◌, ◌-◌, ◌*◌, ◌^◌, ◌<◌, ◌≤◌, Bool, true, false, List, []}
use Rattle.std.proofs.Common.{◌∷◌, ◌++◌, length}
use Rattle.std.proofs.Common.{map, refl, sym, ap, subst, arith, length-append, length-take, append_assoc, take, drop}
use Rattle.std.specs.Prelude.{if◌then◌else◌, ◌==◌, sum_by, slice_index, flat_map, find, is_some}
use Rattle.std.specs.List.{list_any, range_with_len}
use Rattle.std.proofs.lemmas.List.{append-nil, length-map}
use Rattle.std.proofs.lemmas.List.Sums.{sum_by-cons, sum_by-append}
use Rattle.std.proofs.lemmas.List.Concat.{flat_map-append}
use Rattle.std.proofs.lemmas.List.FromFn.{length-map-range_with_len, get_or-map-range_with_len}
use Rattle.doc_bits.specs.Number.{number_bytes, zeros}
use Rattle.doc_bits.proofs.Public.{length-zeros, length-number_bytes, map-map}
use Rattle.summary_set.specs.declared.set.PropertyPair.{PropertyPair}
use Rattle.summary_set.specs.declared.values.Property.{Property}
use Rattle.summary_set.specs.PropertySet.{first_set_begin, first_set_size, pair_count, pair_at, pairs_in_stream}
use Rattle.summary_set.specs.PropertySet.{offsets_of}
use Rattle.summary_set.specs.Form.{IsPropertySet}
use Rattle.summary_set.specs.Values.{value_end, pair_value_bytes, property_of, property_values}
use Rattle.summary_set.specs.Written.{pad_len, padded_value, padded_len, pair_bytes, title_value, title_property}
use Rattle.summary_set.specs.Written.{is_title_property}
use Rattle.summary_set.specs.Written.{in_place, retitled, written_size}
use Rattle.summary_set.proofs.FormLemmas.{head_of_rules, pair_of_rules}
use Rattle.summary_set.proofs.EndLemmas.{value_end-le, value_end-upto, AreSpans, all_spans}
use Rattle.summary_set.proofs.FindLemmas.{is_some-find}
use Rattle.summary_set.proofs.ValueLemmas.{value_end-more}

-- one pair more
pub pair_bytes-push : (from : ℕ) (xs : List Property) (x : Property) →
    pair_bytes from (xs ++ x ∷ []) ≡ pair_bytes from xs
    ++ (number_bytes 4 x.id ++ number_bytes 4 (from + sum_by padded_len xs))
pair_bytes-push from [] x =
    let same : from + 0 ≡ from = omega arith in
    rw (same, append-nil (number_bytes 4 from)) refl
pair_bytes-push from (y ∷ ys) x =
    let next : ℕ = from + padded_len y in
    let place : next + sum_by padded_len ys ≡ from + sum_by padded_len (y ∷ ys) = omega (
      arith,
      sum_by-cons padded_len y
          ys,
    ) in
    let tail : List ℕ = number_bytes 4 x.id ++ number_bytes 4 (from + sum_by padded_len (y ∷ ys)) in
    let ih : pair_bytes next (ys ++ x ∷ []) ≡ pair_bytes next ys ++ tail = subst (λ n. pair_bytes next (ys ++ x ∷ []) ≡
    pair_bytes next ys ++ (number_bytes 4 x.id ++ number_bytes 4 n)) place (pair_bytes-push next ys x) in
    ap (λ rest. number_bytes 4 y.id ++ (number_bytes 4 from ++ rest)) ih
    ∙ (ap (λ rest. number_bytes 4 y.id ++ rest) (sym (append_assoc (number_bytes 4 from) (pair_bytes next ys) tail))
    ∙ sym (append_assoc (number_bytes 4 y.id) (number_bytes 4 from ++ pair_bytes next ys) tail))

-- one value more
pub values-push : (xs : List Property) (x : Property) → flat_map (λ (p : Property). padded_value p.value) (xs ++ x ∷ [])
    ≡
    flat_map (λ (p : Property). padded_value p.value) xs ++ (x.value ++ zeros (pad_len (length x.value)))
values-push xs x =
    flat_map-append (λ (p : Property). padded_value p.value) xs (x ∷ [])
    ∙ ap (λ rest. flat_map (λ (p : Property). padded_value p.value) xs ++ rest) (append-nil (padded_value x.value))

pub joined_four : (a b x y : List ℕ) → ((a ++ b) ++ x) ++ y ≡ a ++ (b ++ (x ++ y))
joined_four a b x y = append_assoc (a ++ b) x y ∙ append_assoc a b (x ++ y)

-- at most three zeros
pub some_zeros : (n : ℕ) → n ≤ 3 → take n (0 ∷ 0 ∷ 0 ∷ []) ≡ zeros n
unfolding zeros
some_zeros zero few = refl
some_zeros (suc zero) few = refl
some_zeros (suc (suc zero)) few = refl
some_zeros (suc (suc (suc zero))) few = refl
some_zeros (suc (suc (suc (suc n)))) few = absurd (omega arith)

-- ---- the properties with another title

any_title : (b : List ℕ) (pairs : List PropertyPair) (there : Bool) → pairs ≡ pairs_in_stream b →
    is_some (find (λ pair. pair.id
    == 2) pairs) ≡ there → list_any is_title_property (property_values b) ≡ there
any_title b pairs there same found =
    is_some-find is_title_property (property_of b) (pairs_in_stream b)
    ∙ (ap (λ xs. is_some (find (λ (pair : PropertyPair). pair.id == 2) xs)) (sym same) ∙ found)

mapped : (b title : List ℕ) (pairs : List PropertyPair) → pairs ≡ pairs_in_stream b →
    map (λ pair. in_place title (property_of b
    pair)) pairs ≡ map (in_place title) (property_values b)
mapped b title pairs same =
    ap (map (λ (pair : PropertyPair). in_place title (property_of b pair))) same
    ∙ sym (map-map (in_place title) (property_of b) (pairs_in_stream b))

-- where there was a title
pub retitled-there : (b title : List ℕ) (pairs : List PropertyPair) → pairs ≡ pairs_in_stream b →
    is_some (find (λ pair. pair.id
    == 2) pairs) ≡ true → map (λ pair. in_place title (property_of b pair)) pairs ≡ retitled (property_values b) title
retitled-there b title pairs same found =
    let values : List Property = map (in_place title) (property_values b) in
    mapped b title pairs same
    ∙ (sym (append-nil values)
    ∙ ap (λ there. values ++ (if there then [] else title_property title ∷ []))
    (sym (any_title b pairs true same found)))

-- where there was none
pub retitled-last : (b title : List ℕ) (pairs : List PropertyPair) → pairs ≡ pairs_in_stream b → is_some (find (λ pair.
    pair.id
    == 2) pairs) ≡ false → map (λ pair. in_place title (property_of b pair)) pairs ++ title_property title ∷ [] ≡
    retitled (property_values b) title
retitled-last b title pairs same found =
    let values : List Property = map (in_place title) (property_values b) in
    ap (λ xs. xs ++ title_property title ∷ []) (mapped b title pairs same)
    ∙ ap (λ there. values ++ (if there then [] else title_property title ∷ []))
    (sym (any_title b pairs false same found))

-- ---- lengths

pub padded_len-is : (value : List ℕ) → length (padded_value value) ≡ length value + pad_len (length value)
padded_len-is value = omega (
  arith,
  length-append value (zeros (pad_len (length value))),
  length-zeros (pad_len
      (length value)),
)

pub padded_len-le : (property : Property) → padded_len property ≤ length property.value + 3
padded_len-le property =
    let is = padded_len-is property.value in
    omega arith

pub length-title_value : (title : List ℕ) → length (title_value title) ≡ length title + 9
length-title_value title =
    let count : List ℕ = number_bytes 4 (length title + 1) in
    let text : List ℕ = title ++ 0 ∷ [] in
    let a = length-append (number_bytes 2 0x1E) (number_bytes 2 0 ++ (count ++ text)) in
    let b = length-append (number_bytes 2 0) (count ++ text) in
    let d = length-append count text in
    let e = length-append title (0 ∷ []) in
    let x = length-number_bytes 2 0x1E in
    let y = length-number_bytes 2 0 in
    let z = length-number_bytes 4 (length title + 1) in
    omega arith

title_len : (title : List ℕ) → length title ≤ 255 → padded_len (title_property title) ≤ 267
title_len title short =
    let is = length-title_value title in
    let le = padded_len-le (title_property title) in
    omega arith

one_of : (test : Bool) (new old : Property) (more : ℕ) → padded_len new ≤ 267 → padded_len (if test then new else old) ≤
    length old.value + 270
one_of true new old more short = omega arith
one_of false new old more short = let le = padded_len-le old in omega arith

titled_sum : (title : List ℕ) (values : List Property) → length title ≤ 255 → sum_by padded_len (map (in_place title)
    values) ≤ sum_by (λ property. length property.value) values + 270 * length values
titled_sum title [] short = omega arith
titled_sum title (property ∷ rest) short =
    let ih = titled_sum title rest short in
    let one = one_of (is_title_property property) (title_property title) property 0 (title_len title short) in
    let a = sum_by-cons padded_len (in_place title property) (map (in_place title) rest) in
    let b = sum_by-cons (λ (p : Property). length p.value) property rest in
    omega arith

last_sum : (there : Bool) (title : List ℕ) → length title ≤ 255 →
    sum_by padded_len (if there then [] else title_property
    title ∷ []) ≤ 267
last_sum true title short = omega arith
last_sum false title short = let le = title_len title short in omega arith

last_len : (there : Bool) (title : List ℕ) → length (if there then [] else title_property title ∷ []) ≤ 1
last_len true title = omega arith
last_len false title = omega arith

sum_maps-le : {A B C : Type 0} (f : B → ℕ) (g : A → B) (h : C → ℕ) (k : A → C) (xs : List A) → ((x : A) → f (g x) ≤ h
    (k x)) → sum_by f (map g xs) ≤ sum_by h (map k xs)
sum_maps-le f g h k [] each = omega arith
sum_maps-le f g h k (x ∷ xs) each =
    let ih = sum_maps-le f g h k xs each in
    let here = each x in
    let a = sum_by-cons f (g x) (map g xs) in
    let b = sum_by-cons h (k x) (map k xs) in
    omega arith

-- ---- the values of a set are no longer than it

pub offset_at : (b : List ℕ) (i : ℕ) → i < pair_count b → slice_index (offsets_of b) i ≡ (pair_at b i).offset
offset_at b i below =
    ap (λ xs. slice_index xs i) (map-map (λ (p : PropertyPair). p.offset) (pair_at b) (range_with_len 0 (pair_count b)))
    ∙ get_or-map-range_with_len (λ j. (pair_at b j).offset) 0 (pair_count b) i i 0 below (omega arith)

pub length-offsets : (b : List ℕ) → length (offsets_of b) ≡ pair_count b
length-offsets b = omega (
  arith,
  length-map (pairs_in_stream b) (λ (p : PropertyPair). p.offset),
  length-map-range_with_len
      (pair_at b) 0 (pair_count b),
)

set_spans : (b : List ℕ) → IsPropertySet b →
    AreSpans (value_end (offsets_of b) (first_set_size b)) (first_set_size b) (offsets_of b)
set_spans b formed =
    let len = length-offsets b in
    record {
      apart = λ i j h below e.
          let low : j < pair_count b = omega arith in
          let a = offset_at b i (omega arith) in
          let d = offset_at b j low in
          (pair_of_rules b j formed.1 low).new_offset i h (sym a ∙ (e ∙ d));
      above = λ k below.
          let low : k < pair_count b = omega arith in
          let at = offset_at b k low in
          let four = (pair_of_rules b k formed.1 low).within in
          value_end-more (offsets_of b) (first_set_size b) (slice_index (offsets_of b) k) (omega arith);
      within = λ k below. value_end-le (offsets_of b) (first_set_size b) (slice_index (offsets_of b) k);
      gap = λ k j below low h. value_end-upto (offsets_of b) (first_set_size b) (slice_index (offsets_of b) k) j low h;
    }

value_len : (b : List ℕ) (pair : PropertyPair) → length (pair_value_bytes b pair) ≤ value_end (offsets_of b)
    (first_set_size b)
    pair.offset - pair.offset
value_len b pair =
    let begin : ℕ = first_set_begin b in
    let end : ℕ = value_end (offsets_of b) (first_set_size b) pair.offset in
    let took = length-take (begin + end - (begin + pair.offset)) (drop (begin + pair.offset) b) in
    omega arith

values_sum : (b : List ℕ) → IsPropertySet b → sum_by (λ (p : Property). length p.value) (property_values b) ≤
    first_set_size b
values_sum b formed =
    let end : ℕ → ℕ = value_end (offsets_of b) (first_set_size b) in
    let le = sum_maps-le (λ (p : Property). length p.value) (property_of b) (λ x. end x - x) (λ (p : PropertyPair).
    p.offset) (pairs_in_stream b) (value_len b) in
    let all = all_spans end (first_set_size b) (offsets_of b) (set_spans b formed) in
    omega arith

-- the set with another title has 32 bits
pub retitled_fits : (b title : List ℕ) → IsPropertySet b → length b ≤ 7143936 → length title ≤ 255 → written_size
    (retitled (property_values b) title) < 2 ^ 32
retitled_fits b title formed short short_title =
    let values : List Property = property_values b in
    let last : List Property = if list_any is_title_property values then [] else title_property title ∷ [] in
    let sized = (head_of_rules b formed.0).sized in
    let pairs = sized.pairs in
    let within = sized.within in
    let sum = values_sum b formed in
    let titled = titled_sum title values short_title in
    let more = last_sum (list_any is_title_property values) title short_title in
    let one = last_len (list_any is_title_property values) title in
    let both = sum_by-append padded_len (map (in_place title) values) last in
    let len = length-append (map (in_place title) values) last in
    let same = length-map values (in_place title) in
    let count = length-map (pairs_in_stream b) (property_of b) in
    let read = length-map-range_with_len (pair_at b) 0 (pair_count b) in
    omega arith
