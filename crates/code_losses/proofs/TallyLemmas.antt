-- A code more of a list, and how many lists have each code then.
use Rattle.std.specs.Prelude.{slice_index, nat_lt, ◌==◌, ◌||◌}
use Rattle.std.proofs.Common.{◌≡◌, ◌≢◌, ◌∙◌, ◌+◌, ◌-◌, ◌^◌, ◌<◌, ◌≤◌, min, refl, sym, ap, subst, inl, inr, ℕ, Bool}
use Rattle.std.proofs.Common.{true, false, cond, List, [], ◌∷◌, ◌++◌, length, length-append, arith}
use Rattle.std.specs.List.{list_any, count_by}
use Rattle.std.proofs.lemmas.Bool.{cases_eq, eq-eqb, ne_eqb, lt-ltb, le-ltb, ltb-true, ltb-false}
use Rattle.std.proofs.lemmas.List.Sums.{sum_by-append, sum_by-cons, count_by-le-length}
use Rattle.sprm_table.specs.Sprm.{Prl}
use Rattle.text_losses.specs.Counts.{has_code, has_again, lists_with, lists_again}
use Rattle.code_losses.specs.declared.counts.Tally.{Tally}
use Rattle.code_losses.specs.declared.counts.CodeCounts.{CodeCounts}
use Rattle.code_losses.specs.Tallies.{code_count, MeetsCode, IsTally}
use Rattle.code_losses.specs.Counted.{HasCodeCounts, AreCodeCounts, IsListing}

-- ---- counts of one entry more

one_of : Bool → ℕ
one_of b = cond b 1 0

pub count_last : {X : Type 0} (p : X → Bool) (xs : List X) (x : X) →
    count_by p (xs ++ x ∷ []) ≡ count_by p xs + cond (p x) 1 0
count_last {X = X} p xs x =
    let f : X → ℕ = λ y. cond (p y) 1 0 in
    let last = sum_by-cons f x [] in
    let both = sum_by-append f xs (x ∷ []) in
    both ∙ ap (λ n. count_by p xs + n) (last ∙ omega arith)

any_head : (b any : Bool) (n : ℕ) → any ≡ nat_lt 0 n → (b || any) ≡ nat_lt 0 (cond b 1 0 + n)
any_head true any n same = sym (lt-ltb 0 (1 + n) (omega arith))
any_head false any n same = let e : n ≡ 0 + n = omega arith in same ∙ ap (nat_lt 0) e

-- some entry is one where one is counted
pub any_count : {X : Type 0} (p : X → Bool) (xs : List X) → list_any p xs ≡ nat_lt 0 (count_by p xs)
any_count p [] = refl
any_count p (x ∷ xs) =
    any_head (p x) (list_any p xs) (count_by p xs) (any_count p xs)
    ∙ ap (nat_lt 0) (sym (sum_by-cons (λ y. cond (p y) 1 0) x xs))

-- ---- the code of the entry, and the others

abbrev entries_of : ℕ → List Prl → ℕ
entries_of code prls = count_by (λ prl. prl.0 == code) prls

entries_here : (code : ℕ) (value : List ℕ) (front : List Prl) →
    entries_of code (front ++ (code, value) ∷ []) ≡ entries_of code front + 1
entries_here code value front =
    count_last (λ prl. prl.0 == code) front (code, value)
    ∙ ap (λ b. entries_of code front + cond b 1 0) (eq-eqb code code refl)

entries_other : (other code : ℕ) (value : List ℕ) (front : List Prl) → other ≢ code →
    entries_of other (front ++ (code, value) ∷ []) ≡ entries_of other front
entries_other other code value front apart =
    count_last (λ prl. prl.0 == other) front (code, value)
    ∙ (ap (λ b. entries_of other front + cond b 1 0) (ne_eqb code other (λ same. apart (sym same))) ∙ omega arith)

has_by : (code : ℕ) (prls : List Prl) → has_code code prls ≡ nat_lt 0 (entries_of code prls)
has_by code prls = any_count (λ prl. prl.0 == code) prls

has_other : (other code : ℕ) (value : List ℕ) (front : List Prl) → other ≢ code →
    has_code other (front ++ (code, value) ∷ []) ≡ has_code other front
has_other other code value front apart =
    has_by other (front ++ (code, value) ∷ [])
    ∙ (ap (nat_lt 0) (entries_other other code value front apart) ∙ sym (has_by other front))

again_other : (other code : ℕ) (value : List ℕ) (front : List Prl) → other ≢ code →
    has_again other (front ++ (code, value) ∷ []) ≡ has_again other front
again_other other code value front apart = ap (nat_lt 1) (entries_other other code value front apart)

has_here : (code : ℕ) (value : List ℕ) (front : List Prl) → has_code code (front ++ (code, value) ∷ []) ≡ true
has_here code value front =
    has_by code (front ++ (code, value) ∷ [])
    ∙ (ap (nat_lt 0) (entries_here code value front) ∙ lt-ltb 0 (entries_of code front + 1) (omega arith))

again_here : (code : ℕ) (value : List ℕ) (front : List Prl) → has_code code front ≡ true →
    has_again code (front ++ (code, value) ∷ []) ≡ true
again_here code value front has =
    let some = ltb-true 0 (entries_of code front) (sym (has_by code front) ∙ has) in
    ap (nat_lt 1) (entries_here code value front) ∙ lt-ltb 1 (entries_of code front + 1) (omega (arith, some))

none_again : (code : ℕ) (prls : List Prl) → entries_of code prls ≤ 1 → has_again code prls ≡ false
none_again code prls few = le-ltb 1 (entries_of code prls) few

again_first : (code : ℕ) (value : List ℕ) (front : List Prl) → has_code code front ≡ false →
    has_again code (front ++ (code, value) ∷ []) ≡ has_again code front
again_first code value front has =
    let none = ltb-false 0 (entries_of code front) (sym (has_by code front) ∙ has) in
    let one = entries_here code value front in
    none_again code (front ++ (code, value) ∷ []) (omega (arith, none, one))
    ∙ sym (none_again code front (omega (arith, none)))

-- ---- a tally after one code more

met_now : (tally : Tally) (code number : ℕ) → slice_index tally.lists.items code ≡ number →
    (slice_index tally.lists.items code == number) ≡ true
met_now tally code number is = eq-eqb (slice_index tally.lists.items code) number is

counted_now : (before : Bool) (was now n : ℕ) → now ≡ cond before was (min (was + 1) (2 ^ 64 - 1)) → was ≡ n →
    n < 2 ^ 64 - 1 → now ≡ n + cond before 0 1
counted_now true was now n is same few = is ∙ (same ∙ omega arith)
counted_now false was now n is same few = omega (arith, is, same, few)

pub tally_more :
    (old new : Tally) (code number : ℕ) (before : Bool) (n m : ℕ → ℕ) (b d : ℕ → Bool) → code < code_count →
    IsTally old number n b → MeetsCode old new code number before → n code < 2 ^ 64 - 1 →
    m code ≡ n code + cond (b code) 0 1 → d code ≡ true → ((other : ℕ) → other ≢ code → m other ≡ n other) →
    ((other : ℕ) → other ≢ code → d other ≡ b other) → IsTally new number m d
tally_more old new code number before n m b d below tally meets few count has counts others =
    let known : before ≡ b code = meets.known ∙ tally.met code below in
    let here : slice_index new.counts.items code ≡ m code =
    counted_now before (slice_index old.counts.items code) (slice_index new.counts.items code) (n code)
    meets.here.count_is (tally.counts code below) few
    ∙ (ap (λ k. n code + cond k 0 1) known ∙ sym count) in
    record {
      codes = meets.codes;
      counts = λ other low. elim (cases_eq other code) [
        | inl same ↦ subst (λ c. slice_index new.counts.items c ≡ m c) (sym same) here
        | inr apart ↦ (meets.others other apart).count_is ∙ (tally.counts other low ∙ sym (counts other apart))
      ];
      met = λ other low. elim (cases_eq other code) [
        | inl same ↦
            subst (λ c. (slice_index new.lists.items c == number) ≡ d c) (sym same)
            (met_now new code number meets.here.list_is ∙ sym has)
        | inr apart ↦
            ap (λ l. l == number) (meets.others other apart).list_is
            ∙ (tally.met other low ∙ sym (others other apart))
      ];
      low = λ other low. elim (cases_eq other code) [
        | inl same ↦
            subst (λ c. slice_index new.lists.items c ≤ number) (sym same) (omega (arith, meets.here.list_is))
        | inr apart ↦
            let is = (meets.others other apart).list_is in
            let was = tally.low other low in
            omega (arith, is, was)
      ];
    }

tally_same : (tally : Tally) (number : ℕ) (n m : ℕ → ℕ) (b d : ℕ → Bool) → IsTally tally number n b →
    ((code : ℕ) → m code ≡ n code) → ((code : ℕ) → d code ≡ b code) → IsTally tally number m d
tally_same tally number n m b d is counts has = record {
  codes = is.codes;
  counts = λ code low. is.counts code low ∙ sym (counts code);
  met = λ code low. is.met code low ∙ sym (has code);
  low = is.low;
}

-- ---- lists

with_last : (code : ℕ) (lists : List (List Prl)) (front : List Prl) →
    lists_with code (lists ++ front ∷ []) ≡ lists_with code lists + cond (has_code code front) 1 0
with_last code lists front = count_last (has_code code) lists front

again_last : (code : ℕ) (lists : List (List Prl)) (front : List Prl) →
    lists_again code (lists ++ front ∷ []) ≡ lists_again code lists + cond (has_again code front) 1 0
again_last code lists front = count_last (has_again code) lists front

-- where the list has what is counted now, and had it or not before
counts_one : (a n m : ℕ) (was now : Bool) → n ≡ a + cond was 1 0 → m ≡ a + cond now 1 0 → now ≡ true →
    m ≡ n + cond was 0 1
counts_one a n m true now is to has = to ∙ (ap (λ b. a + cond b 1 0) has ∙ (sym is ∙ omega arith))
counts_one a n m false now is to has =
    let one : m ≡ a + 1 = to ∙ ap (λ b. a + cond b 1 0) has in
    omega (arith, one, is)

counts_same : (a n m : ℕ) (was now : Bool) → n ≡ a + cond was 1 0 → m ≡ a + cond now 1 0 → now ≡ was → m ≡ n
counts_same a n m was now is to same = to ∙ (ap (λ b. a + cond b 1 0) same ∙ sym is)

-- the codes of the list that comes next, one by one
first_more : (old new : Tally) (lists : List (List Prl)) (front : List Prl) (code number : ℕ) (value : List ℕ)
    (before : Bool) → code < code_count → length lists < 2 ^ 63 →
    IsTally old number (λ c. lists_with c (lists ++ front ∷ [])) (λ c. has_code c front) →
    MeetsCode old new code number before →
    IsTally new number (λ c. lists_with c (lists ++ (front ++ (code, value) ∷ []) ∷ []))
    (λ c. has_code c (front ++ (code, value) ∷ []))
first_more old new lists front code number value before below few tally meets =
    let next = front ++ (code, value) ∷ [] in
    let n : ℕ → ℕ = λ c. lists_with c (lists ++ front ∷ []) in
    let m : ℕ → ℕ = λ c. lists_with c (lists ++ next ∷ []) in
    let most = count_by-le-length (has_code code) (lists ++ front ∷ []) in
    let len : length (lists ++ front ∷ []) ≡ length lists + 1 = length-append lists _ in
    tally_more old new code number before n m (λ c. has_code c front) (λ c. has_code c next) below tally meets
    (omega (arith, most, len, few))
    (counts_one (lists_with code lists) (n code) (m code) (has_code code front) (has_code code next)
    (with_last code lists front) (with_last code lists next) (has_here code value front))
    (has_here code value front)
    (λ other apart. counts_same (lists_with other lists) (n other) (m other) (has_code other front)
    (has_code other next) (with_last other lists front) (with_last other lists next)
    (has_other other code value front apart))
    (λ other apart. has_other other code value front apart)

again_more : (old new : Tally) (lists : List (List Prl)) (front : List Prl) (code number : ℕ) (value : List ℕ)
    (before : Bool) → code < code_count → length lists < 2 ^ 63 → has_code code front ≡ true →
    IsTally old number (λ c. lists_again c (lists ++ front ∷ [])) (λ c. has_again c front) →
    MeetsCode old new code number before →
    IsTally new number (λ c. lists_again c (lists ++ (front ++ (code, value) ∷ []) ∷ []))
    (λ c. has_again c (front ++ (code, value) ∷ []))
again_more old new lists front code number value before below few has tally meets =
    let next = front ++ (code, value) ∷ [] in
    let n : ℕ → ℕ = λ c. lists_again c (lists ++ front ∷ []) in
    let m : ℕ → ℕ = λ c. lists_again c (lists ++ next ∷ []) in
    let most = count_by-le-length (has_again code) (lists ++ front ∷ []) in
    let len : length (lists ++ front ∷ []) ≡ length lists + 1 = length-append lists _ in
    tally_more old new code number before n m (λ c. has_again c front) (λ c. has_again c next) below tally meets
    (omega (arith, most, len, few))
    (counts_one (lists_again code lists) (n code) (m code) (has_again code front) (has_again code next)
    (again_last code lists front) (again_last code lists next) (again_here code value front has))
    (again_here code value front has)
    (λ other apart. counts_same (lists_again other lists) (n other) (m other) (has_again other front)
    (has_again other next) (again_last other lists front) (again_last other lists next)
    (again_other other code value front apart))
    (λ other apart. again_other other code value front apart)

-- a code that was not there is not there again
again_stays : (tally : Tally) (lists : List (List Prl)) (front : List Prl) (code number : ℕ) (value : List ℕ) →
    has_code code front ≡ false →
    IsTally tally number (λ c. lists_again c (lists ++ front ∷ [])) (λ c. has_again c front) →
    IsTally tally number (λ c. lists_again c (lists ++ (front ++ (code, value) ∷ []) ∷ []))
    (λ c. has_again c (front ++ (code, value) ∷ []))
again_stays tally lists front code number value none is =
    let next = front ++ (code, value) ∷ [] in
    let n : ℕ → ℕ = λ c. lists_again c (lists ++ front ∷ []) in
    let m : ℕ → ℕ = λ c. lists_again c (lists ++ next ∷ []) in
    let has : (c : ℕ) → has_again c next ≡ has_again c front =
    λ c. elim (cases_eq c code) [
      | inl same ↦
          subst (λ k. has_again k next ≡ has_again k front) (sym same) (again_first code value front none)
      | inr apart ↦ again_other c code value front apart
    ] in
    tally_same tally number n m (λ c. has_again c front) (λ c. has_again c next) is
    (λ c. counts_same (lists_again c lists) (n c) (m c) (has_again c front) (has_again c next)
    (again_last c lists front) (again_last c lists next) (has c))
    has

-- what is known before the code is met, and after
pub listing_again : (old new : CodeCounts) (lists : List (List Prl)) (front : List Prl) (code : ℕ) (value : List ℕ)
    (twice : Bool) → old.seen < 2 ^ 63 → new.seen ≡ old.seen → IsListing lists front old →
    MeetsCode old.first new.first code (old.seen + 1) true →
    MeetsCode old.again new.again code (old.seen + 1) twice → IsListing lists (front ++ (code, value) ∷ []) new
listing_again old new lists front code value twice few stays is first again =
    let below = first.below in
    let seen = is.seen in
    let has : has_code code front ≡ true = sym (is.first.met code below) ∙ sym first.known in
    let a = first_more old.first new.first lists front code (old.seen + 1) value true below (omega (arith, seen, few))
    is.first first in
    let b = again_more old.again new.again lists front code (old.seen + 1) value twice below
    (omega (arith, seen, few)) has is.again again in
    record {
      seen = stays ∙ seen;
      first = subst (λ n. IsTally new.first (n + 1) (λ c. lists_with c (lists ++ (front ++ (code, value) ∷ []) ∷ []))
          (λ c. has_code c (front ++ (code, value) ∷ []))) (sym stays) a;
      again = subst (λ n. IsTally new.again (n + 1) (λ c. lists_again c (lists ++ (front ++ (code, value) ∷ []) ∷ []))
          (λ c. has_again c (front ++ (code, value) ∷ []))) (sym stays) b;
    }

pub listing_first : (old new : CodeCounts) (lists : List (List Prl)) (front : List Prl) (code : ℕ) (value : List ℕ) →
    old.seen < 2 ^ 63 → new.seen ≡ old.seen → IsListing lists front old →
    MeetsCode old.first new.first code (old.seen + 1) false → new.again ≡ old.again →
    IsListing lists (front ++ (code, value) ∷ []) new
listing_first old new lists front code value few stays is first same =
    let below = first.below in
    let seen = is.seen in
    let has : has_code code front ≡ false = sym (is.first.met code below) ∙ sym first.known in
    let a = first_more old.first new.first lists front code (old.seen + 1) value false below (omega (arith, seen, few))
    is.first first in
    let b = again_stays old.again lists front code (old.seen + 1) value has is.again in
    record {
      seen = stays ∙ seen;
      first = subst (λ n. IsTally new.first (n + 1) (λ c. lists_with c (lists ++ (front ++ (code, value) ∷ []) ∷ []))
          (λ c. has_code c (front ++ (code, value) ∷ []))) (sym stays) a;
      again = subst (λ n. IsTally new.again (n + 1) (λ c. lists_again c (lists ++ (front ++ (code, value) ∷ []) ∷ []))
          (λ c. has_again c (front ++ (code, value) ∷ []))) (sym stays)
          (subst (λ t. IsTally t (old.seen + 1) (λ c. lists_again c (lists ++ (front ++ (code, value) ∷ []) ∷ []))
          (λ c. has_again c (front ++ (code, value) ∷ []))) (sym same) b);
    }

-- ---- where a list begins, and where it ends

with_none : (code : ℕ) (lists : List (List Prl)) → lists_with code (lists ++ [] ∷ []) ≡ lists_with code lists
with_none code lists = with_last code lists [] ∙ omega arith

again_none : (code : ℕ) (lists : List (List Prl)) → lists_again code (lists ++ [] ∷ []) ≡ lists_again code lists
again_none code lists = again_last code lists [] ∙ omega arith

begins : (tally : Tally) (seen : ℕ) (n m : ℕ → ℕ) (b : ℕ → Bool) → HasCodeCounts tally seen n →
    ((code : ℕ) → m code ≡ n code) → ((code : ℕ) → b code ≡ false) → IsTally tally (seen + 1) m b
begins tally seen n m b is counts none = record {
  codes = is.codes;
  counts = λ code low. is.counts code low ∙ sym (counts code);
  met = λ code low.
      let most = is.low code low in
      ne_eqb (slice_index tally.lists.items code) (seen + 1) (λ same. omega (arith, most, same)) ∙ sym (none code);
  low = λ code low. let most = is.low code low in omega (arith, most);
}

pub listing_none : (counts : CodeCounts) (lists : List (List Prl)) → AreCodeCounts lists counts → IsListing lists []
    counts
listing_none counts lists is = record {
  seen = is.seen;
  first = begins counts.first counts.seen (λ c. lists_with c lists) (λ c. lists_with c (lists ++ [] ∷ []))
      (λ c. has_code c []) is.first (λ c. with_none c lists) (λ c. refl);
  again = begins counts.again counts.seen (λ c. lists_again c lists) (λ c. lists_again c (lists ++ [] ∷ []))
      (λ c. has_again c []) is.again (λ c. again_none c lists) (λ c. refl);
}

ends : (tally : Tally) (number : ℕ) (n : ℕ → ℕ) (b : ℕ → Bool) → IsTally tally number n b → HasCodeCounts tally number n
ends tally number n b is = record { codes = is.codes; counts = is.counts; low = is.low }

pub listing_ends : (old new : CodeCounts) (lists : List (List Prl)) (list : List Prl) → IsListing lists list old →
    new.seen ≡ old.seen + 1 → new.first ≡ old.first → new.again ≡ old.again → AreCodeCounts (lists ++ list ∷ []) new
listing_ends old new lists list is seen first again =
    let more = lists ++ list ∷ [] in
    let len : length more ≡ length lists + 1 = length-append lists _ in
    let was = is.seen in
    let a = ends old.first (old.seen + 1) (λ c. lists_with c more) (λ c. has_code c list) is.first in
    let b = ends old.again (old.seen + 1) (λ c. lists_again c more) (λ c. has_again c list) is.again in
    record {
      seen = omega (arith, seen, len, was);
      first = subst (λ n. HasCodeCounts new.first n (λ c. lists_with c more)) (sym seen)
          (subst (λ t. HasCodeCounts t (old.seen + 1) (λ c. lists_with c more)) (sym first) a);
      again = subst (λ n. HasCodeCounts new.again n (λ c. lists_again c more)) (sym seen)
          (subst (λ t. HasCodeCounts t (old.seen + 1) (λ c. lists_again c more)) (sym again) b);
    }
