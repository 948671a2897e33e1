-- Which places are gaps, by the range of the bin table and by what the page answers.
use Rattle.std.proofs.Common.{◌≡◌, ◌∙◌, inl, inr, ℕ, zero, suc, ◌+◌, ◌<◌, ◌≤◌, List, refl, sym, subst}
use Rattle.std.proofs.Common.{arith}
use Rattle.std.proofs.Math.Numerals.{suc-eq-add-one}
use Rattle.std.proofs.lemmas.Bool.{cases_lt}
use Rattle.doc_bits.specs.Plc.{plc_cp}
use Rattle.fkp_pages.specs.declared.kind.PageKind.{PageKind}
use Rattle.fkp_pages.specs.declared.kind.RunAnswer.{RunAnswer}
use Rattle.fkp_pages.specs.declared.kind.RunAnswer.TheVariants.{Found, Empty, NoRun, BadCount, Leaves}
use Rattle.fkp_pages.specs.Fkp.{HasRunAnswer}
use Rattle.fkp_pages.specs.declared.bin_table.BinRange.{BinRange}
use Rattle.fkp_pages.specs.Bin.{bin_count, IsBinTable, IsBinPage, HasNoBin, HasBinRange, page_at}
use Rattle.fkp_pages.specs.Properties.{IsListAnswered}
use Rattle.fkp_pages.proofs.Public.{bin_fcs_ascend, bin_page_one, run_answer_one}
use Rattle.fkp_gaps.specs.Gaps.{IsGapAnswer, IsGap, ArePagesWithin}
use Rattle.fkp_gaps.specs.Filled.{IsPageFor}
use Rattle.fkp_gaps.specs.Laws.{GapsHaveNoList}

-- ---- what a page answers

no_list : (kind : PageKind) (page : List ℕ) (answer : RunAnswer) (list : List ℕ) → IsGapAnswer kind page answer →
    IsListAnswered kind page answer list → ⊥
no_list kind page (Found from to) list gap is = gap
no_list kind page Empty list gap is = gap
no_list kind page NoRun list gap is = is
no_list kind page BadCount list gap is = gap
no_list kind page (Leaves entry) list gap is = is

-- what a page answers where the table names it
record HasAnswerAt (kind : PageKind) (bin wd : List ℕ) (fc number : ℕ) (answer : RunAnswer) : Type 0 where
  named : IsBinPage bin fc number
  answers : HasRunAnswer kind (page_at wd number) fc answer

same_answer : (kind : PageKind) (bin wd : List ℕ) (fc n m : ℕ) (a b : RunAnswer) → IsBinTable bin →
    HasAnswerAt kind bin wd fc n a → HasAnswerAt kind bin wd fc m b → (n ≡ m) × (a ≡ b)
same_answer kind bin wd fc n m a b table one other =
    let number : n ≡ m = bin_page_one bin fc n m table one.named other.named in (
      number,
      run_answer_one kind (page_at wd m) fc a b
          (subst (λ k. HasRunAnswer kind (page_at wd k) fc a) number one.answers) other.answers,
    )

pub gaps_have_no_list : GapsHaveNoList
gaps_have_no_list kind bin wd fc list table (inl none) has = none has.named.entry has.named.range
gaps_have_no_list kind bin wd fc list table (inr gap) has =
    let same = same_answer kind bin wd fc gap.number has.number gap.answer has.answer table
    (record { named = gap.named; answers = gap.answers }) (record { named = has.named; answers = has.answers }) in
    let here : IsGapAnswer kind (page_at wd has.number) has.answer =
    subst (λ a. IsGapAnswer kind (page_at wd has.number) a) same.1
    (subst (λ n. IsGapAnswer kind (page_at wd n) gap.answer) same.0 gap.gap) in
    no_list kind (page_at wd has.number) has.answer list here has.answered

-- a place whose page answers so is no gap
pub no_gap : (kind : PageKind) (bin wd : List ℕ) (fc number : ℕ) (answer : RunAnswer) → IsBinTable bin →
    IsBinPage bin fc number → HasRunAnswer kind (page_at wd number) fc answer →
    ¬ IsGapAnswer kind (page_at wd number) answer → ¬ IsGap kind bin wd fc
no_gap kind bin wd fc number answer table named answers none (inl outside) = outside named.entry named.range
no_gap kind bin wd fc number answer table named answers none (inr gap) =
    let same = same_answer kind bin wd fc gap.number number gap.answer answer table
    (record { named = gap.named; answers = gap.answers }) (record { named = named; answers = answers }) in
    none (subst (λ a. IsGapAnswer kind (page_at wd number) a) same.1
    (subst (λ n. IsGapAnswer kind (page_at wd n) gap.answer) same.0 gap.gap))

-- a place has one right page
pub page_for_one : (kind : PageKind) (bin wd : List ℕ) (number : ℕ) → IsBinTable bin → (fc one other : ℕ) →
    IsPageFor kind bin wd number fc one → IsPageFor kind bin wd number fc other → one ≡ other
page_for_one kind bin wd number table fc one other (inl a) (inl b) = a.1 ∙ sym b.1
page_for_one kind bin wd number table fc one other (inl a) (inr b) = absurd (b.0 a.0)
page_for_one kind bin wd number table fc one other (inr a) (inl b) = absurd (a.0 b.0)
page_for_one kind bin wd number table fc one other (inr a) (inr b) = bin_page_one bin fc one other table a.1 b.1

-- ---- places that no range holds

pub none_before : (bin : List ℕ) (fc : ℕ) → IsBinTable bin → fc < plc_cp bin 0 → HasNoBin bin fc
none_before bin fc table before k range =
    let up = bin_fcs_ascend bin 0 k table (omega arith) (omega (arith, range.below)) in
    omega (arith, up, range.from, before)

-- where no range holds a place behind the first fc, all fcs are at it or before
fcs_passed : (bin : List ℕ) (at : ℕ) → HasNoBin bin at → plc_cp bin 0 ≤ at → (j : ℕ) → j ≤ bin_count bin →
    plc_cp bin j ≤ at
fcs_passed bin at none first zero most = first
fcs_passed bin at none first (suc j) most =
    let before : plc_cp bin j ≤ at = fcs_passed bin at none first j (omega (arith, most)) in
    let below : j < bin_count bin = omega (arith, most) in
    subst (λ n. plc_cp bin n ≤ at) (sym (suc-eq-add-one j)) (elim (cases_lt at (plc_cp bin (j + 1))) [
      | inl inside ↦ absurd (none j (record { below = below; from = before; to = inside }))
      | inr over ↦ over
    ])

pub none_behind : (bin : List ℕ) (at fc : ℕ) → HasNoBin bin at → plc_cp bin 0 ≤ at → at ≤ fc → HasNoBin bin fc
none_behind bin at fc none first up k range =
    let passed = fcs_passed bin at none first (k + 1) (omega (arith, range.below)) in
    omega (arith, passed, range.to, up)

-- ---- the places of a range

-- the table names the page of the range at each of its places
pub same_page : (bin : List ℕ) (at fc : ℕ) (range : BinRange) → HasBinRange bin at range → at ≤ fc → fc < range.to →
    IsBinPage bin fc range.page
same_page bin at fc range there low high = record {
  entry = there.entry;
  range = record {
    below = there.holds.below;
    from = omega (arith, there.holds.from, low);
    to = omega (arith, there.to, high);
  };
  page = there.page;
}

-- the places of a range from one of them on at which its page answers the same
pub record AnswersUpTo (kind : PageKind) (wd : List ℕ) (at to : ℕ) (range : BinRange) (answer : RunAnswer) : Type 0 where
  pub within : to ≤ range.to
  pub each : (fc : ℕ) → at ≤ fc → fc < to → HasRunAnswer kind (page_at wd range.page) fc answer

pub gap_places : (kind : PageKind) (bin wd : List ℕ) (number at to : ℕ) (range : BinRange) (answer : RunAnswer) →
    HasBinRange bin at range → ArePagesWithin bin wd → AnswersUpTo kind wd at to range answer →
    IsGapAnswer kind (page_at wd range.page) answer → (fc : ℕ) → at ≤ fc → fc < to →
    IsPageFor kind bin wd number fc number
gap_places kind bin wd number at to range answer there pages answers gap fc low high =
    let page = pages there.entry there.holds.below in
    inl (
      inr (record {
        number = range.page;
        named = same_page bin at fc range there low (omega (arith, high, answers.within));
        low = omega (arith, page.0, there.page);
        within = omega (arith, page.1, there.page);
        answer = answer;
        answers = answers.each fc low high;
        gap = gap;
      }),
      refl,
    )

pub own_places : (kind : PageKind) (bin wd : List ℕ) (number at to : ℕ) (range : BinRange) (answer : RunAnswer) →
    IsBinTable bin → HasBinRange bin at range → AnswersUpTo kind wd at to range answer →
    ¬ IsGapAnswer kind (page_at wd range.page) answer → (fc : ℕ) → at ≤ fc → fc < to →
    IsPageFor kind bin wd number fc range.page
own_places kind bin wd number at to range answer table there answers none fc low high =
    let named = same_page bin at fc range there low (omega (arith, high, answers.within)) in
    inr (no_gap kind bin wd fc range.page answer table named (answers.each fc low high) none, named)
