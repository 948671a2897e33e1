-- Ranges that touch: a range more, the table that is printed of them, and that they are one list.
use Rattle.std.specs.Prelude.{slice_get, slice_index}
use Rattle.std.proofs.Common.{◌≡◌, ◌≢◌, ◌∙◌, ◌++◌, ◌∷◌, [], inl, inr, ℕ, zero, suc, ◌+◌, ◌-◌, ◌<◌, ◌≤◌, ◌^◌, List, length, map}
use Rattle.std.proofs.Common.{refl, sym, ap, subst, Some, arith, All}
use Rattle.std.proofs.Math.Numerals.{suc-eq-add-one}
use Rattle.std.proofs.lemmas.Bool.{cases_lt}
use Rattle.std.proofs.lemmas.List.{length-append}
use Rattle.std.proofs.lemmas.List.Elements.{All-nil, All-push}
use Rattle.std.proofs.lemmas.Option.{slice_get_within, same_Some}
use Rattle.doc_bits.specs.Plc.{plc_cp}
use Rattle.doc_bits.proofs.Public.{slice_get_push, slice_get_before}
use Rattle.fkp_pages.specs.declared.lists.Bin.{Bin}
use Rattle.fkp_pages.specs.Bin.{bin_fcs, printed_bin, ArePrintableBins, IsBinPage}
use Rattle.fkp_pages.proofs.Public.{printed_fc, printed_page, printed_count, fc_upto_end}
use Rattle.fkp_gaps.specs.declared.bins.PageRange.{PageRange}
use Rattle.fkp_gaps.specs.Filled.{AreRangesOf, HaveOtherPages, greatest_fc}
use Rattle.fkp_gaps.specs.Ranges.{IsRangeFor, AreClosedRanges, JoinsRange, bin_of_range}

-- ---- a range more

pub range_put : (IsValid : ℕ → ℕ → Type 0) (from mid to page : ℕ) (bins : List Bin) →
    AreRangesOf IsValid from bins mid → mid < to → ((fc : ℕ) → mid ≤ fc → fc < to → IsValid fc page) →
    AreRangesOf IsValid from (bins ++ record { first = mid; page = page } ∷ []) to
range_put IsValid from mid to page [] same order right = (
  sym same,
  (to, (subst (λ n. n < to) (sym same) order, ((λ fc low high. right fc (subst (λ n. n ≤ fc) same low) high), refl))),
)
range_put IsValid from mid to page (bin ∷ rest) ranges order right =
    let next = ranges.1.0 in (
      ranges.0,
      (
        next,
        (ranges.1.1.0, (ranges.1.1.1.0, range_put IsValid next mid to page rest ranges.1.1.1.1 order right)),
      ),
    )

pages_put : (old : List Bin) (range : PageRange) → All (λ bin. bin.page < 2 ^ 22) old → range.page < 2 ^ 22 →
    All (λ bin. bin.page < 2 ^ 22) (old ++ bin_of_range range ∷ [])
pages_put old range all small = All-push (λ bin. bin.page < 2 ^ 22) old (bin_of_range range) all small

pub none_apart : (bin : Bin) → HaveOtherPages (bin ∷ [])
none_apart bin k one next here there = absurd (let inside = slice_get_within (bin ∷ []) (k + 1) next there in
    omega (arith, inside))

-- a neighbour with another page
pub apart_put : (bins : List Bin) (bin next : Bin) → HaveOtherPages (bins ++ bin ∷ []) → bin.page ≢ next.page →
    HaveOtherPages ((bins ++ bin ∷ []) ++ next ∷ [])
apart_put bins bin next apart other k one two here there =
    let front = bins ++ bin ∷ [] in
    let len : length front ≡ length bins + 1 = length-append bins (bin ∷ []) in
    let all = length-append front (next ∷ []) in
    let inside = slice_get_within (front ++ next ∷ []) (k + 1) two there in
    elim (cases_lt (k + 1) (length front)) [
      | inl inner ↦
          apart k one two (sym (slice_get_before front (next ∷ []) k (omega (arith, inner))) ∙ here)
          (sym (slice_get_before front (next ∷ []) (k + 1) inner) ∙ there)
      | inr outer ↦
          let last : k + 1 ≡ length front = omega (arith, outer, inside, all) in
          let at : k ≡ length bins = omega (arith, last, len) in
          let found : slice_get front k ≡ Some bin =
          subst (λ n. slice_get front n ≡ Some bin) (sym at) (slice_get_push bins bin) in
          let mine : Some bin ≡ Some one =
          sym found ∙ (sym (slice_get_before front (next ∷ []) k (omega (arith, last))) ∙ here) in
          let yours : Some next ≡ Some two =
          sym (subst (λ n. slice_get (front ++ next ∷ []) n ≡ Some next) (sym last) (slice_get_push front next))
          ∙ there in
          λ same. other (ap (λ (b : Bin). b.page) (same_Some bin one mine) ∙ (same
          ∙ sym (ap (λ (b : Bin). b.page) (same_Some next two yours))))
    ]

-- ---- the table that is printed

first_fc : (IsValid : ℕ → ℕ → Type 0) (from to : ℕ) (bins : List Bin) → AreRangesOf IsValid from bins to →
    slice_index (bin_fcs bins to) 0 ≡ from
first_fc IsValid from to [] same = sym same
first_fc IsValid from to (bin ∷ rest) ranges = ranges.0

-- fc k + 1 as that of the rest
next_fc : (bin : Bin) (rest : List Bin) (to k : ℕ) →
    slice_index (bin_fcs (bin ∷ rest) to) (k + 1) ≡ slice_index (bin_fcs rest to) k
next_fc bin rest to k = ap (slice_index (bin_fcs (bin ∷ rest) to)) (sym (suc-eq-add-one k))

fcs_ascend : (IsValid : ℕ → ℕ → Type 0) (from to : ℕ) (bins : List Bin) → AreRangesOf IsValid from bins to → (k : ℕ) →
    k < length bins → slice_index (bin_fcs bins to) k < slice_index (bin_fcs bins to) (k + 1)
fcs_ascend IsValid from to [] same k below = absurd (omega (arith, below))
fcs_ascend IsValid from to (bin ∷ rest) ranges zero below =
    let next = first_fc IsValid ranges.1.0 to rest ranges.1.1.1.1 in
    omega (arith, ranges.0, ranges.1.1.0, next, next_fc bin rest to 0)
fcs_ascend IsValid from to (bin ∷ rest) ranges (suc k) below =
    let ih = fcs_ascend IsValid ranges.1.0 to rest ranges.1.1.1.1 k (omega (arith, below)) in
    omega (arith, ih, next_fc bin rest to (suc k), ap (slice_index (bin_fcs rest to)) (suc-eq-add-one k))

pub ranges_printable : (IsValid : ℕ → ℕ → Type 0) (from to : ℕ) (bins : List Bin) → AreRangesOf IsValid from bins to →
    0 < length bins → All (λ bin. bin.page < 2 ^ 22) bins → ArePrintableBins bins to
ranges_printable IsValid from to bins ranges some pages = record {
  some = some;
  ascend = fcs_ascend IsValid from to bins ranges;
  pages = pages;
}

right_in_range : (IsValid : ℕ → ℕ → Type 0) (from to : ℕ) (bins : List Bin) → AreRangesOf IsValid from bins to →
    (k fc : ℕ) → k < length bins → slice_index (bin_fcs bins to) k ≤ fc → fc < slice_index (bin_fcs bins to) (k + 1) →
    IsValid fc (slice_index (map (λ bin. bin.page) bins) k)
right_in_range IsValid from to [] same k fc below low high = absurd (omega (arith, below))
right_in_range IsValid from to (bin ∷ rest) ranges zero fc below low high =
    let next = first_fc IsValid ranges.1.0 to rest ranges.1.1.1.1 in
    ranges.1.1.1.0 fc (omega (arith, low, ranges.0)) (omega (arith, high, next, next_fc bin rest to 0))
right_in_range IsValid from to (bin ∷ rest) ranges (suc k) fc below low high =
    right_in_range IsValid ranges.1.0 to rest ranges.1.1.1.1 k fc (omega (arith, below)) low
    (omega (arith, high, next_fc bin rest to (suc k), ap (slice_index (bin_fcs rest to)) (suc-eq-add-one k)))

-- what the table names is right, and its places are before the end
pub record IsValidBefore (IsValid : ℕ → ℕ → Type 0) (to fc number : ℕ) : Type 0 where
  pub right : IsValid fc number
  pub before : fc < to

pub printed_right : (IsValid : ℕ → ℕ → Type 0) (from to : ℕ) (bins : List Bin) → AreRangesOf IsValid from bins to →
    ArePrintableBins bins to → to < 2 ^ 32 → (fc number : ℕ) → IsBinPage (printed_bin bins to) fc number →
    IsValidBefore IsValid to fc number
printed_right IsValid from to bins ranges printable small fc number page =
    let k = page.entry in
    let below : k < length bins = omega (arith, page.range.below, printed_count bins to) in
    let first = printed_fc bins to k printable small (omega (arith, below)) in
    let next = printed_fc bins to (k + 1) printable small (omega (arith, below)) in
    let last = fc_upto_end bins to (k + 1) (length bins - (k + 1)) printable (omega (arith, below)) in
    let named : number ≡ slice_index (map (λ bin. bin.page) bins) k =
    page.page ∙ printed_page bins to k printable below in
    record {
      right = subst (IsValid fc) (sym named) (right_in_range IsValid from to bins ranges k fc below
          (omega (arith, page.range.from, first)) (omega (arith, page.range.to, next)));
      before = omega (arith, page.range.to, next, last);
    }

-- ---- one list

ranges_reach : (IsValid : ℕ → ℕ → Type 0) (from to : ℕ) (bins : List Bin) → AreRangesOf IsValid from bins to → from ≤ to
ranges_reach IsValid from to [] same = omega (arith, same)
ranges_reach IsValid from to (bin ∷ rest) ranges =
    let reach = ranges_reach IsValid ranges.1.0 to rest ranges.1.1.1.1 in
    omega (arith, ranges.1.1.0, reach)

-- a range ends where its page is no longer right
no_longer : (IsValid : ℕ → ℕ → Type 0) (next other to : ℕ) (bin : Bin) (rest : List Bin) →
    ((fc one two : ℕ) → IsValid fc one → IsValid fc two → one ≡ two) → AreRangesOf IsValid next rest to →
    HaveOtherPages (bin ∷ rest) → other ≤ to → IsValid next bin.page → next < other → ⊥
no_longer IsValid next other to bin [] one same apart most right order = omega (arith, same, most, order)
no_longer IsValid next other to bin (second ∷ rest) one ranges apart most right order =
    apart 0 bin second refl refl
    (one next bin.page second.page right (ranges.1.1.1.0 next (omega arith) ranges.1.1.0))

apart_rest : (bin : Bin) (rest : List Bin) → HaveOtherPages (bin ∷ rest) → HaveOtherPages rest
apart_rest bin rest apart k one two here there =
    apart (suc k) one two here
    (ap (slice_get (bin ∷ rest)) (sym (suc-eq-add-one (suc k))) ∙ (ap (slice_get rest) (suc-eq-add-one k) ∙ there))

same_bin : (one other : Bin) → one.first ≡ other.first → one.page ≡ other.page → one ≡ other
same_bin one other first page = λ i. record { first = first i; page = page i }

pub ranges_one : (IsValid : ℕ → ℕ → Type 0) → ((fc one two : ℕ) → IsValid fc one → IsValid fc two → one ≡ two) →
    (from to : ℕ) (xs ys : List Bin) → AreRangesOf IsValid from xs to → AreRangesOf IsValid from ys to →
    HaveOtherPages xs → HaveOtherPages ys → xs ≡ ys
ranges_one IsValid one from to [] [] a b _ _ = refl
ranges_one IsValid one from to [] (y ∷ ys) a b _ _ =
    let reach = ranges_reach IsValid b.1.0 to ys b.1.1.1.1 in
    absurd (omega (arith, a, b.1.1.0, reach))
ranges_one IsValid one from to (x ∷ xs) [] a b _ _ =
    let reach = ranges_reach IsValid a.1.0 to xs a.1.1.1.1 in
    absurd (omega (arith, b, a.1.1.0, reach))
ranges_one IsValid one from to (x ∷ xs) (y ∷ ys) a b apart others =
    let m = a.1.0 in
    let n = b.1.0 in
    let page : x.page ≡ y.page =
    one from x.page y.page (a.1.1.1.0 from (omega arith) a.1.1.0) (b.1.1.1.0 from (omega arith) b.1.1.0) in
    let first : x.first ≡ y.first = a.0 ∙ sym b.0 in
    let reach_a = ranges_reach IsValid m to xs a.1.1.1.1 in
    let reach_b = ranges_reach IsValid n to ys b.1.1.1.1 in
    elim (cases_lt m n) [
      | inl less ↦ absurd (no_longer IsValid m n to x xs one a.1.1.1.1 apart reach_b
          (subst (IsValid m) (sym page) (b.1.1.1.0 m (omega (arith, a.1.1.0)) less)) less)
      | inr more ↦ elim (cases_lt n m) [
        | inl less ↦ absurd (no_longer IsValid n m to y ys one b.1.1.1.1 others reach_a
            (subst (IsValid n) page (a.1.1.1.0 n (omega (arith, b.1.1.0)) less)) less)
        | inr same ↦
            let end : n ≡ m = omega (arith, more, same) in
            let rest : xs ≡ ys = ranges_one IsValid one m to xs ys a.1.1.1.1
            (subst (λ k. AreRangesOf IsValid k ys to) end b.1.1.1.1) (apart_rest x xs apart) (apart_rest y ys others) in
            λ i. same_bin x y first page i ∷ rest i
      ]
    ]

-- ---- ranges on their way

-- a range that goes on is right at the places of both
goes_on : (IsValid : ℕ → ℕ → Type 0) (last next : PageRange) → next.from ≡ last.to → next.page ≡ last.page →
    IsRangeFor IsValid last → IsRangeFor IsValid next →
    IsRangeFor IsValid (record { from = last.from; to = next.to; page = last.page })
goes_on IsValid last next touch page a b = record {
  order = omega (arith, touch, a.order, b.order);
  end = b.end;
  page = a.page;
  right = λ fc low high. elim (cases_lt fc last.to) [
    | inl inside ↦ a.right fc low inside
    | inr behind ↦ subst (IsValid fc) page (b.right fc (omega (arith, behind, touch)) high)
  ];
}

-- what is on its way
pub record IsOnItsWay (IsValid : ℕ → ℕ → Type 0) (bins : List Bin) (last : PageRange) : Type 0 where
  pub range : IsRangeFor IsValid last
  pub closed : AreClosedRanges IsValid bins last

pub joins : (IsValid : ℕ → ℕ → Type 0) (old new : List Bin) (last next range : PageRange) → next.from ≡ last.to →
    IsRangeFor IsValid next → IsOnItsWay IsValid old last → JoinsRange old last next new range →
    IsOnItsWay IsValid new range
joins IsValid old new last next range touch right way (inl goes) =
    let long : PageRange = record { from = last.from; to = next.to; page = last.page } in
    let closed : AreClosedRanges IsValid old long = record {
      ranges = way.closed.ranges;
      apart = way.closed.apart;
      pages = way.closed.pages;
    } in
    subst (IsOnItsWay IsValid new) (sym goes.range_is)
    (subst (λ (l : List Bin). IsOnItsWay IsValid l long) (sym goes.same)
    (record { range = goes_on IsValid last next touch goes.page way.range right; closed = closed }))
joins IsValid old new last next range touch right way (inr closes) =
    let bins = old ++ bin_of_range last ∷ [] in
    let closed : AreClosedRanges IsValid bins next = record {
      ranges = range_put IsValid 0 last.from next.from last.page old way.closed.ranges
          (omega (arith, touch, way.range.order)) (λ fc low high. way.range.right fc low (omega (arith, touch, high)));
      apart = apart_put old (bin_of_range last) (bin_of_range next) way.closed.apart
          (λ same. closes.page (sym same));
      pages = pages_put old last way.closed.pages way.range.page;
    } in
    subst (IsOnItsWay IsValid new) (sym closes.range_is)
    (subst (λ (l : List Bin). IsOnItsWay IsValid l next) (sym closes.put) (record { range = right; closed = closed }))

-- the first range
pub first_way : (IsValid : ℕ → ℕ → Type 0) (bins : List Bin) (range : PageRange) → bins ≡ [] → range.from ≡ 0 →
    IsRangeFor IsValid range → IsOnItsWay IsValid bins range
first_way IsValid bins range none from right =
    subst (λ (l : List Bin). IsOnItsWay IsValid l range) (sym none) (record {
      range = right;
      closed = record { ranges = sym from; apart = none_apart (bin_of_range range); pages = All-nil (λ bin. bin.page < 2 ^ 22) };
    })

-- the last range
pub record IsWhole (IsValid : ℕ → ℕ → Type 0) (bins : List Bin) : Type 0 where
  pub ranges : AreRangesOf IsValid 0 bins greatest_fc
  pub apart : HaveOtherPages bins
  pub numbers : All (λ bin. bin.page < 2 ^ 22) bins

pub last_way : (IsValid : ℕ → ℕ → Type 0) (old new : List Bin) (range : PageRange) → IsOnItsWay IsValid old range →
    greatest_fc ≤ range.to → new ≡ old ++ bin_of_range range ∷ [] → IsWhole IsValid new
last_way IsValid old new range way end put =
    let to : range.to ≡ greatest_fc = omega (arith, end, way.range.end) in
    subst (IsWhole IsValid) (sym put) (record {
      ranges = range_put IsValid 0 range.from greatest_fc range.page old way.closed.ranges
          (omega (arith, way.range.order, to)) (λ fc low high. way.range.right fc low (omega (arith, high, to)));
      apart = way.closed.apart;
      numbers = pages_put old range way.closed.pages way.range.page;
    })
