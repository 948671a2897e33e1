-- Parts of a table stream that are one after the other are found by their pairs.
use Rattle.std.specs.Prelude.{replicate, slice_get, slice_set, slice_range, ⊤, All, ◌^◌}
use Rattle.std.specs.List.{list_all}
use Rattle.std.proofs.Common.{◌≡◌, ◌≢◌, inl, inr, ℕ, zero, suc, ◌+◌, ◌<◌, ◌≤◌, Bool, true, false, eqb, cond, List, []}
use Rattle.std.proofs.Common.{◌∷◌, ◌++◌}
use Rattle.std.proofs.Common.{length, take, drop, Some, refl, sym, ap, ◌∙◌, subst, arith, append_assoc, length-append}
use Rattle.std.proofs.Common.{not, eq-eqb}
use Rattle.std.proofs.lemmas.Bool.{cases_eq, cases_lt, ne_eqb, and_parts, true≢false}
use Rattle.std.proofs.lemmas.List.{get_or-set_other, get_or-set_same, get_or-replicate, get_or_past, length-replicate}
use Rattle.std.proofs.lemmas.List.{length-set, nil_from_length}
use Rattle.std.proofs.lemmas.List.Elements.{All-set, All-replicate}
use Rattle.std.proofs.lemmas.Option.{same_Some, none-some}
use Rattle.doc_bits.proofs.Public.{range_mid}
use Rattle.fib_form.specs.FibFields.{listed_pair, ArePairs, IsWidePair, empty_pairs}
use Rattle.fib_form.proofs.Public.{empty-ArePairs}
use Rattle.fib_form.specs.TableEntries.{TableEntry, entry, IsPartAt}
use Rattle.full_save.specs.TableStream.{table_entry_bytes, entries_bytes, put_pair, pairs_from}

-- a part that is empty has nothing behind it
abbrev pub IsWholePart : TableEntry → Type 0
IsWholePart part = length part.bytes ≡ 0 → length part.behind ≡ 0

-- the number of a part is not below a bound and is that of a pair, and the part is whole
pub record IsNumbered (low : ℕ) (part : TableEntry) : Type 0 where
  pub low_is : low ≤ part.number
  pub below : part.number < 93
  pub whole : IsWholePart part

-- a part with nothing behind it
pub plain : (low number : ℕ) (bytes : List ℕ) → low ≤ number → number < 93 → IsNumbered low (entry number bytes)
plain low number bytes low_is below = record { low_is = low_is; below = below; whole = λ none. refl }

-- the numbers of parts ascend from one on
abbrev pub AreNumbered : ℕ → List TableEntry → Type 0
AreNumbered low [] = ⊤
AreNumbered low (part ∷ parts) = IsNumbered low part × AreNumbered (part.number + 1) parts

-- what is said of a part of the list
record IsNumberedAbove (part : TableEntry) : Type 0 where
  low : ℕ
  is : IsNumbered low part

numbered_at : (low : ℕ) (parts : List TableEntry) (k : ℕ) (part : TableEntry) → AreNumbered low parts →
    slice_get parts k ≡ Some part → IsNumberedAbove part
numbered_at low [] k part are here = absurd (none-some part here)
numbered_at low (first ∷ parts) zero part are here =
    record { low = low; is = subst (IsNumbered low) (same_Some first part here) are.0 }
numbered_at low (first ∷ parts) (suc k) part are here = numbered_at (first.number + 1) parts k part are.1 here

-- ---- one pair

length-put_pair : (at : ℕ) (part : TableEntry) (pairs : List (ℕ × ℕ)) → length (put_pair at part pairs) ≡ length pairs
length-put_pair at part pairs =
    elim (eqb (length part.bytes) 0) as
    (λ b. length (cond b pairs (slice_set pairs part.number (at, length part.bytes))) ≡ length pairs) [
      | true ↦ refl
      | false ↦ length-set pairs part.number (at, length part.bytes)
    ]

put_elsewhere : (at n : ℕ) (part : TableEntry) (pairs : List (ℕ × ℕ)) → n ≢ part.number →
    listed_pair (put_pair at part pairs) n ≡ listed_pair pairs n
put_elsewhere at n part pairs other =
    elim (eqb (length part.bytes) 0) as
    (λ b. listed_pair (cond b pairs (slice_set pairs part.number (at, length part.bytes))) n ≡ listed_pair pairs n) [
      | true ↦ refl
      | false ↦ get_or-set_other pairs part.number n (at, length part.bytes) (0, 0) other
    ]

-- the pair that a part gets: none where it is empty
abbrev placed_pair : ℕ → TableEntry → ℕ × ℕ
placed_pair at part = cond (eqb (length part.bytes) 0) (0, 0) (at, length part.bytes)

put_here : (at : ℕ) (part : TableEntry) (pairs : List (ℕ × ℕ)) → part.number < length pairs →
    listed_pair pairs part.number ≡ (0, 0) → listed_pair (put_pair at part pairs) part.number ≡ placed_pair at part
put_here at part pairs below none =
    elim (eqb (length part.bytes) 0) as
    (λ b. listed_pair (cond b pairs (slice_set pairs part.number (at, length part.bytes))) part.number ≡ cond b (0, 0)
    (at, length part.bytes)) [
      | true ↦ none
      | false ↦ get_or-set_same pairs part.number (at, length part.bytes) (0, 0) below
    ]

-- ---- all pairs

-- a pair of a lower number stays
lower_kept : (low n at : ℕ) (pairs : List (ℕ × ℕ)) (parts : List TableEntry) → AreNumbered low parts → n < low →
    listed_pair (pairs_from at pairs parts) n ≡ listed_pair pairs n
unfolding pairs_from
lower_kept low n at pairs [] ascend below = refl
lower_kept low n at pairs (part ∷ parts) ascend below =
    let first = ascend.0.low_is in
    let other : n ≢ part.number = λ same. omega (arith, first, below, same) in
    lower_kept (part.number + 1) n (at + length (table_entry_bytes part)) (put_pair at part pairs) parts ascend.1
    (omega (arith, first, below))
    ∙ put_elsewhere at n part pairs other

abbrev IsClear : ℕ → List (ℕ × ℕ) → Type 0
IsClear low pairs = (n : ℕ) → low ≤ n → listed_pair pairs n ≡ (0, 0)

pair_found : (low at place : ℕ) (pairs : List (ℕ × ℕ)) (parts : List TableEntry) (k : ℕ) (part : TableEntry) →
    AreNumbered low parts → IsClear low pairs → slice_get parts k ≡ Some part → part.number < length pairs →
    place ≡ at + length (entries_bytes (take k parts)) →
    listed_pair (pairs_from at pairs parts) part.number ≡ placed_pair place part
unfolding pairs_from
pair_found low at place pairs [] k part ascend clear here below e = absurd (none-some part here)
pair_found low at place pairs (first ∷ parts) zero part ascend clear here below e =
    let same = same_Some first part here in
    let number = ap (λ (p : TableEntry). p.number) same in
    let next : part.number < first.number + 1 = omega (arith, number) in
    let there : at ≡ place = omega (arith, e) in
    let low_is = ascend.0.low_is in
    lower_kept (first.number + 1) part.number (at + length (table_entry_bytes first)) (put_pair at first pairs) parts
    ascend.1 next
    ∙ (ap (listed_pair (put_pair at first pairs)) (sym number)
    ∙ (put_here at first pairs (omega (arith, number, below)) (clear first.number low_is)
    ∙ (λ i. placed_pair (there i) (same i))))
pair_found low at place pairs (first ∷ parts) (suc k) part ascend clear here below e =
    let len = length-append (table_entry_bytes first) (entries_bytes (take k parts)) in
    let first_is = ascend.0.low_is in
    let still : IsClear (first.number + 1) (put_pair at first pairs) = λ n high.
    let other : n ≢ first.number = λ same. omega (arith, high, same) in
    put_elsewhere at n first pairs other ∙ clear n (omega (arith, high, first_is)) in
    let many = length-put_pair at first pairs in
    pair_found (first.number + 1) (at + length (table_entry_bytes first)) place (put_pair at first pairs) parts k part
    ascend.1
    still here (omega (arith, below, many)) (omega (arith, e, len))

-- ---- the bytes

-- the parts before one, the part, and those behind it
cut_at_entry : (parts : List TableEntry) (k : ℕ) (part : TableEntry) → slice_get parts k ≡ Some part →
    entries_bytes parts
    ≡ entries_bytes (take k parts) ++ (part.bytes ++ (part.behind ++ entries_bytes (drop (suc k) parts)))
cut_at_entry [] k part here = absurd (none-some part here)
cut_at_entry (first ∷ parts) zero part here =
    let same = same_Some first part here in
    append_assoc first.bytes first.behind (entries_bytes parts)
    ∙ ap (λ (p : TableEntry). p.bytes ++ (p.behind ++ entries_bytes parts)) same
cut_at_entry (first ∷ parts) (suc k) part here =
    ap (λ rest. table_entry_bytes first ++ rest) (cut_at_entry parts k part here)
    ∙ sym (append_assoc (table_entry_bytes first) (entries_bytes (take k parts))
    (part.bytes ++ (part.behind ++ entries_bytes (drop (suc k) parts))))

empty_there : (table : List ℕ) (part : TableEntry) → length part.bytes ≡ 0 → IsWholePart part →
    IsPartAt table (0, 0) part
empty_there table part none whole =
    let behind = whole none in
    let no_bytes : part.bytes ≡ [] = nil_from_length part.bytes none in
    let no_behind : part.behind ≡ [] = nil_from_length part.behind behind in
    let to : 0 + 0 + length part.behind ≡ 0 = omega (arith, behind) in
    record {
      len = sym none;
      bytes = sym no_bytes;
      within = omega (arith, behind);
      behind = ap (λ n. slice_range table 0 n) to ∙ sym no_behind;
    }

some_there : (table : List ℕ) (parts : List TableEntry) (k place : ℕ) (part : TableEntry) →
    table ≡ entries_bytes parts → slice_get parts k ≡ Some part → place ≡ length (entries_bytes (take k parts)) →
    IsPartAt table (place, length part.bytes) part
some_there table parts k place part is here at =
    let front = entries_bytes (take k parts) in
    let back = entries_bytes (drop (suc k) parts) in
    let cut : table ≡ front ++ (part.bytes ++ (part.behind ++ back)) = is ∙ cut_at_entry parts k part here in
    let later : table ≡ (front ++ part.bytes) ++ (part.behind ++ back) =
    cut ∙ sym (append_assoc front part.bytes (part.behind ++ back)) in
    let a = length-append front (part.bytes ++ (part.behind ++ back)) in
    let b = length-append part.bytes (part.behind ++ back) in
    let c = length-append part.behind back in
    let d = length-append front part.bytes in
    let all = ap length cut in
    record {
      len = refl;
      bytes = range_mid table front part.bytes (part.behind ++ back) place (place + length part.bytes) cut at
          (omega (arith, at));
      within = omega (arith, a, b, c, all, at);
      behind = range_mid table (front ++ part.bytes) part.behind back (place + length part.bytes)
          (place + length part.bytes + length part.behind) later (omega (arith, d, at)) (omega (arith, d, at));
    }

placed_there : (table : List ℕ) (parts : List TableEntry) (k place : ℕ) (part : TableEntry) →
    table ≡ entries_bytes parts → slice_get parts k ≡ Some part → place ≡ length (entries_bytes (take k parts)) →
    IsWholePart part → IsPartAt table (placed_pair place part) part
placed_there table parts k place part is here at whole = elim (cases_eq (length part.bytes) 0) [
  | inl none ↦
      let test : eqb (length part.bytes) 0 ≡ true = eq-eqb (length part.bytes) 0 none in
      subst (λ b. IsPartAt table (cond b (0, 0) (place, length part.bytes)) part) (sym test)
      (empty_there table part none whole)
  | inr some ↦
      let test : eqb (length part.bytes) 0 ≡ false = ne_eqb (length part.bytes) 0 some in
      subst (λ b. IsPartAt table (cond b (0, 0) (place, length part.bytes)) part) (sym test)
      (some_there table parts k place part is here at)
]

-- each part is where its pair says
entry_found : (table : List ℕ) (pairs : List (ℕ × ℕ)) (parts : List TableEntry) (k : ℕ) (part : TableEntry) →
    table ≡ entries_bytes parts → AreNumbered 0 parts → ((n : ℕ) → listed_pair pairs n ≡ (0, 0)) →
    slice_get parts k ≡ Some part → part.number < length pairs → IsWholePart part →
    IsPartAt table (listed_pair (pairs_from 0 pairs parts) part.number) part
entry_found table pairs parts k part is ascend clear here below whole =
    let place = length (entries_bytes (take k parts)) in
    let e : place ≡ 0 + length (entries_bytes (take k parts)) = omega arith in
    subst (λ pair. IsPartAt table pair part)
    (sym (pair_found 0 0 place pairs parts k part ascend (λ n low. clear n) here below e))
    (placed_there table parts k place part is here refl whole)

-- ---- what the pairs of all parts are

length-pairs_from : (at : ℕ) (pairs : List (ℕ × ℕ)) (parts : List TableEntry) →
    length (pairs_from at pairs parts) ≡ length pairs
unfolding pairs_from
length-pairs_from at pairs [] = refl
length-pairs_from at pairs (part ∷ parts) =
    length-pairs_from (at + length (table_entry_bytes part)) (put_pair at part pairs) parts ∙ length-put_pair at part
    pairs

-- a pair of another number than those of the parts stays
abbrev pub are_others : ℕ → List TableEntry → Bool
are_others n parts = list_all (λ part. not (eqb n part.number)) parts

other_kept : (n at : ℕ) (pairs : List (ℕ × ℕ)) (parts : List TableEntry) → are_others n parts ≡ true →
    listed_pair (pairs_from at pairs parts) n ≡ listed_pair pairs n
unfolding pairs_from
other_kept n at pairs [] others = refl
other_kept n at pairs (part ∷ parts) others =
    let tests = and_parts (not (eqb n part.number)) (are_others n parts) others in
    let other : n ≢ part.number = λ same.
    true≢false (sym tests.0 ∙ ap not (eq-eqb n part.number same)) in
    other_kept n (at + length (table_entry_bytes part)) (put_pair at part pairs) parts tests.1
    ∙ put_elsewhere at n part pairs other

-- parts that a FIB may have
pub record AreAllowed (parts : List TableEntry) : Type 0 where
  pub main_drawings : are_others 40 parts ≡ true
  pub header_drawings : are_others 41 parts ≡ true
  pub endnotes : are_others 46 parts ≡ true

pub entries_are_pairs : (parts : List TableEntry) → AreAllowed parts → ArePairs (pairs_from 0 empty_pairs parts)
entries_are_pairs parts allowed =
    let none = empty-ArePairs in
    let kept : (n : ℕ) → are_others n parts ≡ true →
    (listed_pair (pairs_from 0 empty_pairs parts) n).1 ≡ (listed_pair empty_pairs n).1 =
    λ n others. ap (λ (pair : ℕ × ℕ). pair.1) (other_kept n 0 empty_pairs parts others) in
    record {
      count = length-pairs_from 0 empty_pairs parts ∙ none.count;
      main_drawings = omega (arith, kept 40 allowed.main_drawings, none.main_drawings);
      header_drawings = omega (arith, kept 41 allowed.header_drawings, none.header_drawings);
      endnotes = omega (arith, kept 46 allowed.endnotes, none.endnotes);
    }

-- each number of a pair is below the end of the parts
put_wide : (at : ℕ) (part : TableEntry) (pairs : List (ℕ × ℕ)) → All IsWidePair pairs →
    at + length part.bytes < 2 ^ 32 → All IsWidePair (put_pair at part pairs)
put_wide at part pairs wide small =
    elim (eqb (length part.bytes) 0) as
    (λ b. All IsWidePair (cond b pairs (slice_set pairs part.number (at, length part.bytes)))) [
      | true ↦ wide
      | false ↦
          All-set IsWidePair pairs part.number (at, length part.bytes) (omega (arith, small), omega (arith, small)) wide
    ]

wide_from : (at : ℕ) (pairs : List (ℕ × ℕ)) (parts : List TableEntry) → All IsWidePair pairs →
    at + length (entries_bytes parts) < 2 ^ 32 → All IsWidePair (pairs_from at pairs parts)
unfolding pairs_from
wide_from at pairs [] wide small = wide
wide_from at pairs (part ∷ parts) wide small =
    let len = length-append (table_entry_bytes part) (entries_bytes parts) in
    let own = length-append part.bytes part.behind in
    wide_from (at + length (table_entry_bytes part)) (put_pair at part pairs) parts
    (put_wide at part pairs wide (omega (arith, len, own, small))) (omega (arith, len, small))

no_pair : (n : ℕ) → listed_pair empty_pairs n ≡ (0, 0)
unfolding empty_pairs
no_pair n = elim (cases_lt n 93) [
  | inl low ↦ get_or-replicate {A = ℕ × ℕ} 93 n (0, 0) (0, 0) low
  | inr high ↦ get_or_past (replicate 93 (0, 0)) n (0, 0) (omega (arith, high, length-replicate {A = ℕ × ℕ} 93 (0, 0)))
]

empty_wide : All IsWidePair empty_pairs
unfolding empty_pairs
empty_wide = All-replicate IsWidePair 93 (0, 0) (omega arith, omega arith)

pub entries_are_wide : (parts : List TableEntry) → length (entries_bytes parts) < 2 ^ 32 →
    All IsWidePair (pairs_from 0 empty_pairs parts)
entries_are_wide parts small = wide_from 0 empty_pairs parts empty_wide (omega (arith, small))

-- each part of a table stream is where its pair says
pub record Stands (parts : List TableEntry) (part : TableEntry) : Type 0 where
  pub below : part.number < 93
  pub there : IsPartAt (entries_bytes parts) (listed_pair (pairs_from 0 empty_pairs parts) part.number) part

pub entry_stands : (parts : List TableEntry) (k : ℕ) (part : TableEntry) → AreNumbered 0 parts →
    slice_get parts k ≡ Some part → Stands parts part
entry_stands parts k part are here =
    let count = empty-ArePairs.count in
    let is = (numbered_at 0 parts k part are here).is in
    record {
      below = is.below;
      there =
          entry_found (entries_bytes parts) empty_pairs parts k part refl are no_pair here
          (omega (arith, is.below, count)) is.whole;
    }
