-- Streams that are the same behind a place.
use Rattle.std.specs.Prelude.{slice_range, slice_index}
use Rattle.std.proofs.Common.{◌≡◌, ◌∙◌, ◌+◌, ◌-◌, ◌<◌, ◌≤◌, sym, ap, ℕ, List, take, drop, length, arith}
use Rattle.std.proofs.lemmas.List.{drop-drop, get_or-drop, length-drop}
use Rattle.doc_bits.specs.Number.{number_at}
use Rattle.doc_bits.proofs.Public.{number_at-drop}

rest_at : (xs : List ℕ) (k from : ℕ) → k ≤ from → drop from xs ≡ drop (from - k) (drop k xs)
rest_at xs k from low =
    let at : k + (from - k) ≡ from = omega (arith, low) in
    ap (λ n. drop n xs) (sym at) ∙ sym (drop-drop (from - k) k xs)

pub drop_behind : (old new : List ℕ) (k from : ℕ) → drop k new ≡ drop k old → k ≤ from → drop from new ≡ drop from old
drop_behind old new k from same low =
    rest_at new k from low ∙ (ap (drop (from - k)) same ∙ sym (rest_at old k from low))

pub range_behind : (old new : List ℕ) (k from to : ℕ) → drop k new ≡ drop k old → k ≤ from →
    slice_range new from to ≡ slice_range old from to
range_behind old new k from to same low = ap (take (to - from)) (drop_behind old new k from same low)

byte_at : (xs : List ℕ) (k at : ℕ) → k ≤ at → slice_index xs at ≡ slice_index (drop k xs) (at - k)
byte_at xs k at low =
    let here : k + (at - k) ≡ at = omega (arith, low) in
    ap (slice_index xs) (sym here) ∙ sym (get_or-drop k xs (at - k) 0)

pub byte_behind : (old new : List ℕ) (k at : ℕ) → drop k new ≡ drop k old → k ≤ at →
    slice_index new at ≡ slice_index old at
byte_behind old new k at same low =
    byte_at new k at low ∙ (ap (λ xs. slice_index xs (at - k)) same ∙ sym (byte_at old k at low))

spelt_at : (xs : List ℕ) (k at width : ℕ) → k ≤ at → number_at xs at width ≡ number_at (drop k xs) (at - k) width
spelt_at xs k at width low =
    let here : k + (at - k) ≡ at = omega (arith, low) in
    ap (λ n. number_at xs n width) (sym here) ∙ sym (number_at-drop k xs (at - k) width)

pub number_behind : (old new : List ℕ) (k at width : ℕ) → drop k new ≡ drop k old → k ≤ at →
    number_at new at width ≡ number_at old at width
number_behind old new k at width same low =
    spelt_at new k at width low
    ∙ (ap (λ xs. number_at xs (at - k) width) same ∙ sym (spelt_at old k at width low))

-- they are of one length, if they reach so far
pub length_behind : (old new : List ℕ) (k : ℕ) → drop k new ≡ drop k old → k < length new → length new ≡ length old
length_behind old new k same far =
    omega (arith, far, length-drop k new, length-drop k old, ap length same)
