-- A written set is read back: each value ends where the next one begins.
use Rattle.std.proofs.Common.{◌≡◌, ◌∙◌, inl, inr, ℕ, suc, ◌+◌, ◌*◌, ◌<◌, ◌≤◌, List, []}
use Rattle.std.proofs.Common.{◌++◌}
use Rattle.std.proofs.Common.{length, map, take, Some, refl, sym, ap, arith}
use Rattle.std.specs.Prelude.{sum_by, slice_range, slice_get, flat_map}
use Rattle.std.specs.List.{range_with_len}
use Rattle.std.proofs.lemmas.Bool.{cases_lt}
use Rattle.std.proofs.lemmas.List.{take_all, length-map}
use Rattle.std.proofs.lemmas.List.FromFn.{fill_by_all}
use Rattle.std.proofs.lemmas.Option.{slice_get_within, get_or_from_slice_get}
use Rattle.doc_bits.specs.Number.{number_bytes}
use Rattle.doc_bits.proofs.Public.{length-number_bytes, map-map, there_is, get-map}
use Rattle.summary_set.specs.declared.values.Property.{Property}
use Rattle.summary_set.specs.PropertySet.{first_set_begin, first_set_size, pair_count, pair_at, offsets_of}
use Rattle.summary_set.specs.Values.{value_end, pair_value_bytes, property_of, property_values}
use Rattle.summary_set.specs.Written.{KeptBytes, padded_value, padded_len, padded_property, pair_bytes}
use Rattle.summary_set.specs.Written.{first_offset, written_size, written_set}
use Rattle.summary_set.specs.Laws.{AreWritable, HoldsSet}
use Rattle.summary_set.proofs.FormLemmas.{head_holds, right_pairs}
use Rattle.summary_set.proofs.EndLemmas.{value_end-le, value_end-upto, value_end-from}
use Rattle.summary_set.proofs.WriteLemmas.{offset_at, length-offsets}
use Rattle.summary_set.proofs.HeadLemmas.{range_after, flat-range, flat-system, flat-format}
use Rattle.summary_set.proofs.PairLemmas.{stands_at, length-pair_bytes, sum_take-le, sum_take-more, value_among}
use Rattle.summary_set.proofs.WrittenLemmas.{body, is_kept, written-flat, written-begin, written-size, written-count}
use Rattle.summary_set.proofs.WrittenLemmas.{written-id, written-offset, written-head, padded_least, stands_before}
use Rattle.summary_set.proofs.WrittenLemmas.{stands_within, written-right}

pub next_stands : (values : List Property) (i : ℕ) (x : Property) → slice_get values i ≡ Some x →
    stands_at values (suc i) ≡
    stands_at values i + padded_len x
unfolding stands_at
next_stands values i x here = let more = sum_take-more padded_len values i x here in omega arith

pub last_stands : (values : List Property) (i : ℕ) (x : Property) → slice_get values i ≡ Some x →
    length values ≤ suc i →
    stands_at values i + padded_len x ≡ written_size values
unfolding stands_at
last_stands values i x here last =
    let more = sum_take-more padded_len values i x here in
    let all : sum_by padded_len (take (suc i) values) ≡ sum_by padded_len values = ap (λ xs. sum_by padded_len xs)
    (take_all
    (suc i) values last) in
    omega arith

-- no later value is before an earlier one
pub not_before : (kept : KeptBytes) (values : List Property) (k i : ℕ) → AreWritable kept values → k ≤ i →
    i < length values →
    stands_at values i < stands_at values k → ⊥
unfolding stands_at
not_before kept values k i w h low over = let le = sum_take-le padded_len values k i h in absurd (omega arith)

-- a value ends where the next one begins
pub written-end : (kept : KeptBytes) (values : List Property) (i : ℕ) (x : Property) → AreWritable kept values →
    slice_get
    values i ≡ Some x → value_end (offsets_of (written_set kept values)) (first_set_size (written_set kept values))
    (pair_at
    (written_set kept values) i).offset ≡ stands_at values i + padded_len x
written-end kept values i x w here =
    let b : List ℕ = written_set kept values in
    let low = slice_get_within values i x here in
    let offset : ℕ = (pair_at b i).offset in
    let end : ℕ = value_end (offsets_of b) (first_set_size b) offset in
    let size = written-size kept values w in
    let count = written-count kept values w in
    let len = length-offsets b in
    let stands = written-offset kept values i w low in
    let least = padded_least x (w.some i x here) in
    let within = stands_within kept values i x w here in
    let from : stands_at values i + padded_len x ≤ end = value_end-from (offsets_of b) (first_set_size b) offset
    (stands_at values i
    + padded_len x) (omega arith) (λ k below over.
    let at = offset_at b k (omega arith) in
    let there = written-offset kept values k w (omega arith) in
    elim (cases_lt i k) [
      | inl after ↦ let le = stands_before kept values i k x w here after in omega arith
      | inr upto ↦ absurd (not_before kept values k i w upto (omega arith) (omega arith))
    ]) in
    let upto : end ≤ stands_at values i + padded_len x = elim (cases_lt (suc i) (length values)) [
      | inl more ↦
          let at = offset_at b (suc i) (omega arith) in
          let there = written-offset kept values (suc i) w more in
          let next = next_stands values i x here in
          let le = value_end-upto (offsets_of b) (first_set_size b) offset (suc i) (omega arith) (omega arith) in
          omega arith
      | inr last ↦
          let le = value_end-le (offsets_of b) (first_set_size b) offset in
          let all = last_stands values i x here (omega arith) in
          omega arith
    ] in
    omega arith

pub written-value : (kept : KeptBytes) (values : List Property) (i : ℕ) (x : Property) → AreWritable kept values →
    slice_get
    values i ≡ Some x → pair_value_bytes (written_set kept values) (pair_at (written_set kept values) i) ≡ padded_value
    x.value
unfolding stands_at body
written-value kept values i x w here =
    let b : List ℕ = written_set kept values in
    let low = slice_get_within values i x here in
    let pairs : List ℕ = pair_bytes (first_offset values) values in
    let all : List ℕ = flat_map (λ (p : Property). padded_value p.value) values in
    let sum : ℕ = sum_by padded_len (take i values) in
    let n : ℕ = 8 * length values in
    let begin = written-begin kept values w in
    let stands = written-offset kept values i w low in
    let end = written-end kept values i x w here in
    let from : first_set_begin b + (pair_at b i).offset ≡ 48 + (4 + (4 + (n + sum))) = omega arith in
    let to : first_set_begin b + value_end (offsets_of b) (first_set_size b) (pair_at b i).offset ≡ 48 + (4 + (4 + (n +
    (sum +
    padded_len x)))) = omega arith in
    ap (λ p. slice_range b p (first_set_begin b + value_end (offsets_of b) (first_set_size b) (pair_at b i).offset))
    from
    ∙ (ap (λ p. slice_range b (48 + (4 + (4 + (n + sum)))) p) to
    ∙ (ap (λ l. slice_range l (48 + (4 + (4 + (n + sum)))) (48 + (4 + (4 + (n + (sum + padded_len x))))))
    (written-flat kept
    values)
    ∙ (flat-range kept (body values) (4 + (4 + (n + sum))) (4 + (4 + (n + (sum + padded_len x))))
    (is_kept kept values w)
    ∙ (range_after (number_bytes 4 (written_size values)) (number_bytes 4 (length values) ++ (pairs ++ all)) 4 (4 + (n +
    sum)) (4 + (n + (sum + padded_len x))) (length-number_bytes 4 (written_size values))
    ∙ (range_after (number_bytes 4 (length values)) (pairs ++ all) 4 (n + sum) (n + (sum + padded_len x))
    (length-number_bytes 4 (length values))
    ∙ (range_after pairs all n sum (sum + padded_len x) (length-pair_bytes (first_offset values) values)
    ∙ value_among values i x here))))))

pub same_property : (id : ℕ) (value : List ℕ) (x : Property) → id ≡ x.id → value ≡ padded_value x.value → record {
  id = id;
  value =
      value;
} ≡ padded_property x
same_property id value x e f = rw (e, f) refl

pub written-values : (kept : KeptBytes) (values : List Property) → AreWritable kept values →
    property_values (written_set kept
    values) ≡ map padded_property values
written-values kept values w =
    let b : List ℕ = written_set kept values in
    let count = written-count kept values w in
    let len = length-map values padded_property in
    map-map (property_of b) (pair_at b) (range_with_len 0 (pair_count b))
    ∙ sym (fill_by_all (λ i. property_of b (pair_at b i)) (map padded_property values) (pair_count b) (record {
      id = 0;
      value = [];
    }) (omega arith) (λ k below.
    let found = there_is values k (omega arith) in
    let x : Property = found.0 in
    get_or_from_slice_get (map padded_property values) k (padded_property x) (record { id = 0; value = [] }) (get-map
    padded_property values k x found.1)
    ∙ sym
    (same_property (pair_at b k).id (pair_value_bytes b (pair_at b k)) x (written-id kept values k x w found.1)
    (written-value
    kept values k x w found.1))))

pub same_kept : (system format : List ℕ) (kept : KeptBytes) → system ≡ kept.system → format ≡ kept.format → record {
  system =
      system;
  format = format;
} ≡ kept
same_kept system format kept e f = rw (e, f) refl

-- a written set is read back
pub read_back : (kept : KeptBytes) (values : List Property) → AreWritable kept values →
    HoldsSet (written_set kept values)
    kept (map padded_property values)
read_back kept values w =
    let b : List ℕ = written_set kept values in
    let is = is_kept kept values w in
    let flat_same = written-flat kept values in
    let count = written-count kept values w in
    record {
      formed = (
        head_holds b (written-head kept values w),
        right_pairs b (λ i low. written-right kept values i w (omega arith)),
      );
      kept_same = same_kept (slice_range b 2 24) (slice_range b 28 44) kept (ap (λ l. slice_range l 2 24) flat_same
          ∙ flat-system kept (body values) is)
          (ap (λ l. slice_range l 28 44) flat_same ∙ flat-format kept (body values) is);
      values_same = written-values kept values w;
    }
