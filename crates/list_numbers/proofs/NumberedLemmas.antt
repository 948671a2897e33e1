-- Numbers of paragraphs, one after the other.
use Rattle.std.proofs.Common.{◌≡◌, inl, inr, ℕ, ◌+◌, ◌*◌, ◌/◌, ◌%◌, ◌<◌, ◌^◌, List, [], ◌∷◌, ◌++◌, length, take}
use Rattle.std.proofs.Common.{Option, Some, sym, ap, ◌∙◌, subst, arith}
use Rattle.std.specs.Prelude.{slice_get, slice_index}
use Rattle.std.proofs.lemmas.Bool.{cases_lt}
use Rattle.std.proofs.lemmas.List.{take_more, get_or_past}
use Rattle.std.proofs.lemmas.Option.{get_or_from_slice_get}
use Rattle.list_numbers.specs.declared.list_format.ListFormat.{ListFormat}
use Rattle.list_numbers.specs.declared.list_place.ListPlace.{ListPlace}
use Rattle.list_numbers.specs.Counts.{count_at}
use Rattle.list_numbers.specs.Counters.{HaveCounted}
use Rattle.list_numbers.specs.Numbers.{number_at_place, at_entry}
use Rattle.list_numbers.proofs.TabulatedLemmas.{tabulate_zero}
use Rattle.doc_parts.specs.Tabulated.{tabulate}
use Rattle.doc_parts.proofs.Public.{tabulate-next}

-- no counter is above the number of places
pub few_counted : (places : List (Option ListPlace)) (lists : ℕ) (counts : List ℕ) → HaveCounted places lists counts →
    length places + 1 < 2 ^ 32 → (i : ℕ) → slice_index counts i + 1 < 2 ^ 32
few_counted places lists counts h small i = elim (cases_lt i (9 * lists)) [
  | inl low ↦
      let e : 9 * (i / 9) + i % 9 ≡ i = omega arith in
      let each = h.each (i / 9) (i % 9) (omega arith) (omega arith) in
      let most = each.1 in
      let is : slice_index counts i ≡ count_at places (i / 9) (i % 9) = subst (λ n. slice_index counts n ≡ count_at
      places (i / 9) (i % 9)) e each.0 in
      omega arith
  | inr past ↦
      let size = h.size in
      let none = get_or_past counts i 0 (omega arith) in
      omega arith
]

-- the numbers of the first places, and the counters there
pub record HasNumbered (lists : List ListFormat) (places : List (Option ListPlace)) (made : List (Option (List ℕ)))
    (counts : List ℕ) (done : ℕ) : Type 0 where
  pub numbers :
      made ≡ tabulate (λ i. number_at_place lists (take (i + 1) places) (at_entry (slice_get places i))) done
  pub counted : HaveCounted (take done places) (length lists) counts

pub none_numbered : (lists : List ListFormat) (places : List (Option ListPlace)) (counts : List ℕ) →
    HaveCounted [] (length lists) counts → HasNumbered lists places [] counts 0
none_numbered lists places counts h = record {
  numbers = sym (tabulate_zero (λ i. number_at_place lists (take (i + 1) places) (at_entry (slice_get places i))));
  counted = h;
}

-- ---- one place more

pub place_taken : (places : List (Option ListPlace)) (k : ℕ) (place : Option ListPlace) →
    slice_get places k ≡ Some place → k < length places → take (k + 1) places ≡ take k places ++ place ∷ []
place_taken places k place there low =
    take_more places k place low ∙ ap (λ p. take k places ++ p ∷ []) (get_or_from_slice_get places k place place there)

-- the number of a place by the places up to it
abbrev pub own_number : List ListFormat → List (Option ListPlace) → ℕ → Option (List ℕ)
own_number lists places i = number_at_place lists (take (i + 1) places) (at_entry (slice_get places i))

pub number_is_own : (lists : List ListFormat) (places : List (Option ListPlace)) (k : ℕ) (place : Option ListPlace)
    (number : Option (List ℕ)) → slice_get places k ≡ Some place → k < length places →
    number ≡ number_at_place lists (take k places ++ place ∷ []) place → number ≡ own_number lists places k
number_is_own lists places k place number there low is =
    is ∙ (ap (λ ps. number_at_place lists ps place) (sym (place_taken places k place there low))
    ∙ ap (λ o. number_at_place lists (take (k + 1) places) (at_entry o)) (sym there))

pub one_numbered : (lists : List ListFormat) (places : List (Option ListPlace)) (made : List (Option (List ℕ)))
    (counts new : List ℕ) (k : ℕ) (place : Option ListPlace) (number : Option (List ℕ)) →
    HasNumbered lists places made counts k → slice_get places k ≡ Some place → k < length places →
    HaveCounted (take k places ++ place ∷ []) (length lists) new →
    number ≡ number_at_place lists (take k places ++ place ∷ []) place →
    HasNumbered lists places (made ++ number ∷ []) new (k + 1)
one_numbered lists places made counts new k place number h there low counted is =
    let f : ℕ → Option (List ℕ) = own_number lists places in
    let own : number ≡ f k = number_is_own lists places k place number there low is in
    record {
      numbers = ap (λ l. l ++ number ∷ []) h.numbers ∙ (ap (λ n. tabulate f k ++ n ∷ []) own ∙ sym (tabulate-next f k));
      counted = subst (λ ps. HaveCounted ps (length lists) new) (sym (place_taken places k place there low)) counted;
    }
