-- The ranges that are kept of an old bin table, and a table of these and of later ones.
use Rattle.std.specs.Prelude.{slice_get, slice_index, nat_lt, filter}
use Rattle.std.specs.List.{range_with_len}
use Rattle.std.proofs.Common.{◌≡◌, ◌∙◌, refl, sym, ap, subst, inl, inr, ℕ, zero, suc, ◌+◌, ◌-◌, ◌<◌, ◌≤◌, ◌^◌}
use Rattle.std.proofs.Math.Nat.{min-le_right, le-min}
use Rattle.std.proofs.Common.{Bool, cond, List, ◌∷◌, ◌++◌, length, map, Some, All, arith}
use Rattle.std.proofs.lemmas.Bool.{cases_lt, lt-ltb, le-ltb}
use Rattle.std.proofs.lemmas.List.{length-append}
use Rattle.std.proofs.lemmas.List.Elements.{All-append}
use Rattle.std.proofs.lemmas.List.FromFn.{get_or-range_with_len, length-range_with_len, length-map-range_with_len}
use Rattle.std.proofs.lemmas.Option.{slice_get_within, get_or_from_slice_get}
use Rattle.doc_bits.proofs.Public.{there_is, from_map, All_at, All-from_slice_get}
use Rattle.doc_bits.specs.Plc.{plc_cp}
use Rattle.fkp_pages.specs.declared.lists.Bin.{Bin}
use Rattle.fkp_pages.specs.Bin.{bin_count, bin_fcs, ArePrintableBins, IsBinTable}
use Rattle.fkp_pages.specs.Rows.{AreRangesBefore, KeepsRanges}
use Rattle.fkp_pages.proofs.Public.{bin_fcs_ascend, fc_before, fc_behind}
use Rattle.fast_save_layout.specs.KeptBins.{bin_of, kept_bins, kept_end}

-- ---- which ranges are kept

abbrev begins_before : ℕ → Bin → Bool
begins_before before bin = nat_lt bin.first before

abbrev ranges_from : List ℕ → ℕ → ℕ → List Bin
ranges_from table from n = map (bin_of table) (range_with_len from n)

abbrev Ascends : List ℕ → ℕ → Type 0
Ascends table end = (k : ℕ) → k + 1 < end → plc_cp table k < plc_cp table (k + 1)

-- of the ranges from one on, the first few are kept
record KeptFrom (table : List ℕ) (before from n : ℕ) : Type 0 where
  count : ℕ
  few : count ≤ n
  are : filter (begins_before before) (ranges_from table from n) ≡ ranges_from table from count
  low : (k : ℕ) → from ≤ k → k < from + count → plc_cp table k < before
  high : (k : ℕ) → from + count ≤ k → k < from + n → before ≤ plc_cp table k

kept_from : (table : List ℕ) (before from n : ℕ) → Ascends table (from + n) → KeptFrom table before from n
kept_from table before from zero up = record {
  count = 0;
  few = omega arith;
  are = refl;
  low = λ k a b. absurd (omega (arith, a, b));
  high = λ k a b. absurd (omega (arith, a, b));
}
kept_from table before from (suc n) up =
    let rest = kept_from table before (from + 1) n (λ k h. up k (omega (arith, h))) in
    let few = rest.few in
    let own = bin_of table from in
    let others = filter (begins_before before) (ranges_from table (from + 1) n) in
    elim (cases_lt (plc_cp table from) before) [
      | inl low ↦ record {
        count = suc rest.count;
        few = omega (arith, few);
        are =
            ap (λ b. cond b (own ∷ others) others) (lt-ltb (plc_cp table from) before low)
            ∙ ap (λ (more : List Bin). own ∷ more) rest.are;
        low = λ k a b. elim (cases_lt from k) [
          | inl behind ↦ rest.low k (omega (arith, behind)) (omega (arith, b))
          | inr here ↦
              let e : from ≡ k = omega (arith, a, here) in
              subst (λ n. plc_cp table n < before) e low
        ];
        high = λ k a b. rest.high k (omega (arith, a)) (omega (arith, b));
      }
      | inr high ↦
          let none : rest.count ≡ 0 = elim (cases_lt 0 rest.count) [
            | inl some ↦
                let next = rest.low (from + 1) (omega arith) (omega (arith, some)) in
                let ascends = up from (omega (arith, few, some)) in
                absurd (omega (arith, next, ascends, high))
            | inr past ↦ omega (arith, past)
          ] in
          record {
            count = 0;
            few = omega arith;
            are =
                ap (λ b. cond b (own ∷ others) others) (le-ltb (plc_cp table from) before high)
                ∙ (rest.are ∙ ap (ranges_from table (from + 1)) none);
            low = λ k a b. absurd (omega (arith, a, b));
            high = λ k a b. elim (cases_lt from k) [
              | inl behind ↦ rest.high k (omega (arith, behind, none)) (omega (arith, b))
              | inr here ↦
                  let e : from ≡ k = omega (arith, a, here) in
                  subst (λ n. before ≤ plc_cp table n) e high
            ];
          }
    ]

-- the ranges of a table that begin before a place are its first ones
pub record AreFirstRanges (table : List ℕ) (before : ℕ) (bins : List Bin) : Type 0 where
  pub few : length bins ≤ bin_count table
  pub each : (k : ℕ) (bin : Bin) → slice_get bins k ≡ Some bin → bin ≡ bin_of table k
  pub low : (k : ℕ) → k < length bins → plc_cp table k < before
  pub high : (k : ℕ) → length bins ≤ k → k < bin_count table → before ≤ plc_cp table k

pub kept_are_first : (table : List ℕ) (before : ℕ) → IsBinTable table →
    AreFirstRanges table before (kept_bins table before)
kept_are_first table before is =
    let all = bin_count table in
    let kept = kept_from table before 0 all (λ k h. is.ascend k (omega (arith, h))) in
    let bins = kept_bins table before in
    let few = kept.few in
    let len : length bins ≡ kept.count =
    ap length kept.are ∙ length-map-range_with_len (bin_of table) 0 kept.count in
    record {
      few = omega (arith, few, len);
      each = λ k bin here.
          let there : slice_get (ranges_from table 0 kept.count) k ≡ Some bin =
          subst (λ xs. slice_get xs k ≡ Some bin) kept.are here in
          let found = from_map (bin_of table) (range_with_len 0 kept.count) k bin there in
          let range = range_with_len 0 kept.count in
          let within = slice_get_within range k found.0 found.1.0 in
          let long = length-range_with_len 0 kept.count in
          let own = get_or_from_slice_get range k found.0 0 found.1.0 in
          let number = get_or-range_with_len 0 kept.count k 0 (omega (arith, within, long)) in
          let at : found.0 ≡ k = omega (arith, own, number) in
          sym found.1.1 ∙ ap (bin_of table) at;
      low = λ k below. kept.low k (omega arith) (omega (arith, below, len));
      high = λ k behind below. kept.high k (omega (arith, behind, len)) (omega (arith, below));
    }

-- as what a longer table keeps
pub first_are_before : (table : List ℕ) (before : ℕ) (bins : List Bin) → AreFirstRanges table before bins →
    AreRangesBefore table before bins
first_are_before table before bins are = record {
  fewer = are.few;
  each = λ k bin here.
      let same = are.each k bin here in
      (ap (λ (b : Bin). b.first) same, ap (λ (b : Bin). b.page) same);
  all = λ k below behind. are.high k behind below;
}

-- ---- where they end

-- they begin before their end
pub first_before_end : (table : List ℕ) (before : ℕ) (bins : List Bin) → IsBinTable table →
    AreFirstRanges table before bins → AreFirstRanges table (kept_end table before) bins
first_before_end table before bins is are =
    let few = are.few in
    let last = bin_count table in
    record {
      few = few;
      each = are.each;
      low = λ k below.
          let low = are.low k below in
          let up = is.ascend k (omega (arith, below, few)) in
          let upto = bin_fcs_ascend table (k + 1) last is (omega (arith, below, few)) (omega arith) in
          let least : plc_cp table k + 1 ≤ kept_end table before =
          le-min (omega (arith, up, upto)) (omega (arith, low)) in
          omega (arith, least);
      high = λ k behind below.
          let high = are.high k behind below in
          omega (arith, high, min-le_right (plc_cp table last) before);
    }

-- a table that keeps the ranges before this end keeps those before the place
pub kept_further : (old new : List ℕ) (before : ℕ) → IsBinTable old → KeepsRanges old new (kept_end old before) →
    KeepsRanges old new before
kept_further old new before is keeps =
    let last = bin_count old in
    let fewer = keeps.fewer in
    record {
      count = keeps.count;
      fewer = fewer;
      there = keeps.there;
      first = keeps.first;
      page = keeps.page;
      ends = λ k below. elim (keeps.ends k below) [
        | inl same ↦ inl same
        | inr far ↦ elim (cases_lt (plc_cp old last) before) [
          | inl early ↦
              let upto = bin_fcs_ascend old (k + 1) last is (omega (arith, below, fewer)) (omega arith) in
              let least : plc_cp old last ≤ kept_end old before = le-min (omega arith) (omega (arith, early)) in
              inl (omega (arith, far, upto, least))
          | inr late ↦
              let least : before ≤ kept_end old before = le-min (omega (arith, late)) (omega arith) in
              inr (omega (arith, far, least))
        ]
      ];
      all = λ k inside past.
          let begins = keeps.all k inside past in
          let up = is.ascend k inside in
          let upto = bin_fcs_ascend old (k + 1) last is (omega (arith, inside)) (omega arith) in
          elim (cases_lt (plc_cp old last) before) [
            | inl early ↦
                let least : plc_cp old last ≤ kept_end old before = le-min (omega arith) (omega (arith, early)) in
                absurd (omega (arith, begins, up, upto, least))
            | inr late ↦
                let least : before ≤ kept_end old before = le-min (omega (arith, late)) (omega arith) in
                omega (arith, begins, least)
          ];
    }

-- ---- a table of kept ranges and later ones

-- later ranges: there are none, or a table can have them alone
abbrev pub MayFollow : List Bin → ℕ → Type 0
MayFollow more end = 0 < length more → ArePrintableBins more end

kept_page : (table : List ℕ) (before : ℕ) (bins : List Bin) → AreFirstRanges table before bins →
    All (λ bin. bin.page < 2 ^ 22) bins
kept_page table before bins are =
    All-from_slice_get (λ (bin : Bin). bin.page < 2 ^ 22) bins (λ k bin here.
    let same = ap (λ (b : Bin). b.page) (are.each k bin here) in
    omega (arith, same))

later_page : (more : List Bin) (end : ℕ) → MayFollow more end → All (λ bin. bin.page < 2 ^ 22) more
later_page more end may = All-from_slice_get (λ (bin : Bin). bin.page < 2 ^ 22) more (λ k bin here.
    let some : 0 < length more = omega (arith, slice_get_within more k bin here) in
    All_at (λ (bin : Bin). bin.page < 2 ^ 22) more k bin (may some).pages here)

pub printable_with : (table : List ℕ) (before : ℕ) (bins more : List Bin) (end : ℕ) → IsBinTable table →
    AreFirstRanges table before bins → MayFollow more end → before ≤ slice_index (bin_fcs more end) 0 →
    0 < length (bins ++ more) → ArePrintableBins (bins ++ more) end
printable_with table before bins more end is are may begins some =
    let len = length-append bins more in
    let fcs = bin_fcs (bins ++ more) end in
    let few = are.few in
    let old : (k : ℕ) → k < length bins → slice_index fcs k ≡ plc_cp table k = λ k below.
    let found = there_is bins k below in
    fc_before bins more end k found.0 found.1 ∙ ap (λ (b : Bin). b.first) (are.each k found.0 found.1) in
    let new : (k : ℕ) → slice_index fcs (length bins + k) ≡ slice_index (bin_fcs more end) k =
    λ k. fc_behind bins more end k in
    record {
      some = some;
      ascend = λ k below. elim (cases_lt (k + 1) (length bins)) [
        | inl inner ↦
            let one = old k (omega (arith, inner)) in
            let two = old (k + 1) inner in
            let up = is.ascend k (omega (arith, inner, few)) in
            omega (arith, one, two, up)
        | inr outer ↦ elim (cases_lt k (length bins)) [
          | inl last ↦
              let one = old k last in
              let e : k + 1 ≡ length bins + 0 = omega (arith, outer, last) in
              let two : slice_index fcs (k + 1) ≡ slice_index (bin_fcs more end) 0 = ap (slice_index fcs) e ∙ new 0 in
              let low = are.low k last in
              omega (arith, one, two, low, begins)
          | inr behind ↦
              let j : ℕ = k - length bins in
              let e : k ≡ length bins + j = omega (arith, behind) in
              let e1 : k + 1 ≡ length bins + (j + 1) = omega (arith, behind) in
              let one : slice_index fcs k ≡ slice_index (bin_fcs more end) j = ap (slice_index fcs) e ∙ new j in
              let two : slice_index fcs (k + 1) ≡ slice_index (bin_fcs more end) (j + 1) =
              ap (slice_index fcs) e1 ∙ new (j + 1) in
              let within : j < length more = omega (arith, below, len, behind) in
              let up = (may (omega (arith, within))).ascend j within in
              omega (arith, one, two, up)
        ]
      ];
      pages =
          All-append (λ (bin : Bin). bin.page < 2 ^ 22) bins more (kept_page table before bins are)
          (later_page more end may);
    }
