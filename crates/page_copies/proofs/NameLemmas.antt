-- The pages that the first ranges of a bin table name.
use Rattle.std.specs.Prelude.{slice_index, ◌==◌, ◌||◌}
use Rattle.std.proofs.Common.{◌≡◌, ◌≢◌, ◌∙◌, ◌+◌, ◌<◌, refl, sym, ap, inl, inr, ℕ, Bool, true, false, List, []}
use Rattle.std.proofs.Common.{◌∷◌, zero, suc, map, length, subst, arith, add-one}
use Rattle.std.specs.List.{list_any, range_with_len}
use Rattle.std.proofs.lemmas.Bool.{cases_eq, cases_lt, eq-eqb, ne_eqb}
use Rattle.std.proofs.lemmas.List.Folds.{list_any-append}
use Rattle.std.proofs.lemmas.List.FromFn.{map-range_with_len_more}
use Rattle.fkp_pages.specs.Bin.{bin_count, page_number, IsBinPage}
use Rattle.page_copies.specs.Names.{names_page, named_flag}

abbrev pub named_by_ranges : List ℕ → ℕ → ℕ → Bool
named_by_ranges bin count number = list_any (λ page. page == number) (map (page_number bin) (range_with_len 0 count))

or_true : (b : Bool) → (b || (true || false)) ≡ true
or_true true = refl
or_true false = refl

or_false : (b : Bool) → (b || (false || false)) ≡ b
or_false true = refl
or_false false = refl

ranges_more : (bin : List ℕ) (k number : ℕ) →
    named_by_ranges bin (k + 1) number ≡ (named_by_ranges bin k number || ((page_number bin k == number) || false))
ranges_more bin k number =
    ap (list_any (λ page. page == number)) (map-range_with_len_more (page_number bin) 0 k k (omega arith))
    ∙ list_any-append (λ page. page == number) (map (page_number bin) (range_with_len 0 k)) (page_number bin k ∷ [])

range_here : (bin : List ℕ) (k number : ℕ) → page_number bin k ≡ number → named_by_ranges bin (k + 1) number ≡ true
range_here bin k number same =
    ranges_more bin k number
    ∙ (ap (λ b. named_by_ranges bin k number || (b || false)) (eq-eqb (page_number bin k) number same)
    ∙ or_true (named_by_ranges bin k number))

range_other : (bin : List ℕ) (k number : ℕ) → page_number bin k ≢ number →
    named_by_ranges bin (k + 1) number ≡ named_by_ranges bin k number
range_other bin k number apart =
    ranges_more bin k number
    ∙ (ap (λ b. named_by_ranges bin k number || (b || false)) (ne_eqb (page_number bin k) number apart)
    ∙ or_false (named_by_ranges bin k number))

-- the marks after one range more
pub mark_more : (bin old new : List ℕ) (k page number : ℕ) → page ≡ page_number bin k →
    (page < length old → slice_index new page ≡ 1) →
    ((other : ℕ) → other ≢ page → slice_index new other ≡ slice_index old other) → number < length old →
    slice_index old number ≡ named_flag (named_by_ranges bin k number) →
    slice_index new number ≡ named_flag (named_by_ranges bin (k + 1) number)
mark_more bin old new k page number is here others within before = elim (cases_eq number page) [
  | inl same ↦
      ap (slice_index new) same
      ∙ (here (omega (arith, same, within)) ∙ sym (ap named_flag (range_here bin k number (sym is ∙ sym same))))
  | inr apart ↦
      others number apart
      ∙ (before ∙ sym (ap named_flag (range_other bin k number (λ same. apart (sym same ∙ sym is)))))
]

-- a page that a range names is named
named_up : (bin : List ℕ) (k count number : ℕ) → k < count → page_number bin k ≡ number →
    named_by_ranges bin count number ≡ true
named_up bin k zero number low is = absurd (omega (arith, low))
named_up bin k (suc count) number low is =
    subst (λ n. named_by_ranges bin n number ≡ true) (add-one count) (elim (cases_lt k count) [
      | inl before ↦
          ranges_more bin count number
          ∙ ap (λ b. b || ((page_number bin count == number) || false)) (named_up bin k count number before is)
      | inr after ↦
          let here : k ≡ count = omega (arith, low, after) in
          range_here bin count number (ap (page_number bin) (sym here) ∙ is)
    ])

pub page_named : (bin : List ℕ) (fc number : ℕ) → IsBinPage bin fc number → names_page bin number ≡ true
page_named bin fc number is = named_up bin is.entry (bin_count bin) number is.range.below (sym is.page)
