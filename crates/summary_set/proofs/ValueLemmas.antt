-- Values of a set: where the ascending offsets say that they end, and that they are in the stream.
use Rattle.std.proofs.Common.{◌≡◌, inl, inr, ℕ, ◌+◌, ◌<◌, ◌≤◌, true, false, List, length, sym, subst}
use Rattle.std.proofs.Common.{refl, get_or, arith}
use Rattle.std.specs.Prelude.{All, IsPermutation, nat_le, slice_index}
use Rattle.std.specs.List.Sorted.{IsNonDecreasingBy, IsPartitionPoint}
use Rattle.std.proofs.lemmas.Bool.{cases_lt, leb-true, leb-false}
use Rattle.std.proofs.lemmas.List.Elements.{All-from_get_or, All-map}
use Rattle.std.proofs.lemmas.List.Sorted.{All-permutation, IsPermutation-sym}
use Rattle.std.proofs.lemmas.List.FromFn.{length-map-range_with_len, get_or-map-range_with_len}
use Rattle.summary_set.specs.declared.set.PropertyPair.{PropertyPair}
use Rattle.summary_set.specs.PropertySet.{first_set_size, pair_count, pair_at, pairs_in_stream, offsets_of}
use Rattle.summary_set.specs.Form.{IsPropertySet}
use Rattle.summary_set.specs.Values.{value_end}
use Rattle.summary_set.proofs.FormLemmas.{pair_of_rules}
use Rattle.summary_set.proofs.EndLemmas.{value_end-le, value_end-upto, value_end-from}

-- a value does not end before it begins
pub value_end-least : (offsets : List ℕ) (size offset : ℕ) → offset ≤ size → offset ≤ value_end offsets size offset
value_end-least offsets size offset within = value_end-from offsets size offset offset within (λ k below above. omega
    arith)

-- and where no other one begins there, it has bytes
pub value_end-more : (offsets : List ℕ) (size offset : ℕ) → offset < size → offset < value_end offsets size offset
value_end-more offsets size offset within =
    let le = value_end-from offsets size offset (offset + 1) (omega arith) (λ k below above. omega arith) in
    omega arith

-- the first ascending offset above the value's own is its end
pub end_found : (offsets ascending : List ℕ) (size offset next : ℕ) → IsPermutation offsets ascending →
    IsNonDecreasingBy (λ x. x) ascending → IsPartitionPoint (λ y. nat_le y offset ≡ true) (λ y. nat_le y offset ≡ false)
    ascending next → All (λ x. x ≤ size) offsets → next < length ascending → slice_index ascending next ≡ value_end
    offsets
    size offset
end_found offsets ascending size offset next same order cut within below =
    let first : ℕ = slice_index ascending next in
    let back = IsPermutation-sym offsets ascending same in
    let high : offset < first = leb-false first offset (cut.1 next 0 (omega arith) below) in
    let bound = All-permutation (λ x. x ≤ size) offsets ascending same within in
    let short : first ≤ size = bound next 0 below in
    let later = All-permutation (λ x. offset < x → first ≤ x) ascending offsets back (All-from_get_or (λ x. offset < x →
    first ≤ x) ascending 0 (λ j low over. elim (cases_lt j next) [
      | inl before ↦ let le = leb-true (get_or ascending j 0) offset (cut.0 j 0 (omega arith) before) in absurd (omega
          arith)
      | inr behind ↦ order next j 0 behind low
    ])) in
    let upto = All-permutation (λ x. x ≡ first → value_end offsets size offset ≤ x) offsets ascending same
    (All-from_get_or (λ x. x ≡ first → value_end offsets size offset ≤ x) offsets 0 (λ k low e.
    value_end-upto offsets size offset k low (omega arith))) in
    let most : value_end offsets size offset ≤ first = upto next 0 below refl in
    let least : first ≤ value_end offsets size offset = value_end-from offsets size offset first short (λ k low over.
    later k 0 low over) in
    omega arith

-- where no offset is above it, the size is
pub end_last : (offsets ascending : List ℕ) (size offset next : ℕ) → IsPermutation offsets ascending →
    IsPartitionPoint (λ y. nat_le y offset ≡ true) (λ y. nat_le y offset ≡ false) ascending next → length
    ascending ≤ next
    → size ≡ value_end offsets size offset
end_last offsets ascending size offset next same cut past =
    let back = IsPermutation-sym offsets ascending same in
    let none = All-permutation (λ x. x ≤ offset) ascending offsets back (All-from_get_or (λ x. x ≤ offset) ascending 0
    (λ j low. leb-true (get_or ascending j 0) offset (cut.0 j 0 (omega arith) (omega arith)))) in
    let most = value_end-le offsets size offset in
    let least : size ≤ value_end offsets size offset = value_end-from offsets size offset size (omega arith)
    (λ k low over.
    let le = none k 0 low in absurd (omega arith)) in
    omega arith

-- each pair of a set names four bytes of it
pub pairs_within : (b : List ℕ) → IsPropertySet b → All (λ pair. pair.offset + 4 ≤ first_set_size b) (pairs_in_stream b)
pairs_within b formed =
    All-from_get_or (λ (pair : PropertyPair). pair.offset + 4 ≤ first_set_size b) (pairs_in_stream b) (pair_at b 0) (λ i
    low.
    let below : i < pair_count b = omega (arith, length-map-range_with_len (pair_at b) 0 (pair_count b)) in
    subst (λ (pair : PropertyPair). pair.offset + 4 ≤ first_set_size b) (sym (get_or-map-range_with_len (pair_at b) 0
    (pair_count b) i i (pair_at b 0) below (omega arith))) (pair_of_rules b i formed.1 below).within)

-- so each offset is at most the size
pub offsets_within : (b : List ℕ) → IsPropertySet b → All (λ x. x ≤ first_set_size b) (offsets_of b)
offsets_within b formed =
    All-map (λ x. x ≤ first_set_size b) (λ (pair : PropertyPair). pair.offset) (pairs_in_stream b) (λ k d low.
    let h = pairs_within b formed k d low in omega arith)
