-- What a filled table names at a place, and that it is one.
use Rattle.std.proofs.Common.{◌≡◌, ◌∙◌, ◌∷◌, [], inl, inr, ℕ, ◌+◌, ◌*◌, ◌<◌, ◌≤◌, List, length}
use Rattle.std.proofs.Common.{sym, ap, subst, arith}
use Rattle.fkp_pages.specs.declared.kind.PageKind.{PageKind}
use Rattle.fkp_pages.specs.declared.kind.RunAnswer.{RunAnswer}
use Rattle.fkp_pages.specs.declared.kind.RunAnswer.TheVariants.{Empty}
use Rattle.fkp_pages.specs.declared.lists.Bin.{Bin}
use Rattle.fkp_pages.specs.Fkp.{HasRunAnswer}
use Rattle.fkp_pages.specs.Bin.{IsBinTable, IsBinPage, page_at, printed_bin, ArePrintableBins}
use Rattle.fkp_pages.specs.Properties.{IsListAnswered, HasListAt, bare_list}
use Rattle.fkp_pages.proofs.Public.{run_answer_one, printed_table}
use Rattle.fkp_gaps.specs.Gaps.{ArePagesWithin}
use Rattle.fkp_gaps.specs.Filled.{AreRangesOf, IsPageFor, IsFilledBin, greatest_fc, next_page}
use Rattle.fkp_gaps.specs.Filled.{with_empty_run, empty_run_page}
use Rattle.fkp_gaps.specs.Laws.{FilledPlacesHaveLists, FilledBinIsOne}
use Rattle.fkp_gaps.proofs.GapLemmas.{page_for_one}
use Rattle.fkp_gaps.proofs.RangeLemmas.{IsValidBefore, IsWhole, ranges_printable, printed_right, ranges_one}
use Rattle.fkp_gaps.proofs.PageLemmas.{page_answers, page_behind, page_before}

-- ---- the table

some_range : (IsValid : ℕ → ℕ → Type 0) (to : ℕ) (bins : List Bin) → 0 < to → AreRangesOf IsValid 0 bins to →
    0 < length bins
some_range IsValid to [] up same = absurd (omega (arith, up, same))
some_range IsValid to (bin ∷ rest) up ranges = omega arith

pub whole_printable : (IsValid : ℕ → ℕ → Type 0) (bins : List Bin) → IsWhole IsValid bins →
    ArePrintableBins bins greatest_fc
whole_printable IsValid bins is =
    ranges_printable IsValid 0 greatest_fc bins is.ranges (some_range IsValid greatest_fc bins (omega arith) is.ranges)
    is.numbers

pub whole_filled : (kind : PageKind) (bin wd : List ℕ) (number : ℕ) (bins : List Bin) (new : List ℕ) →
    IsWhole (IsPageFor kind bin wd number) bins → new ≡ printed_bin bins greatest_fc → IsFilledBin kind bin wd number
    new
whole_filled kind bin wd number bins new is bytes = record {
  bins = bins;
  ranges = is.ranges;
  apart = is.apart;
  numbers = is.numbers;
  bytes = bytes;
}

pub filled_printable : (kind : PageKind) (bin wd : List ℕ) (number : ℕ) (new : List ℕ) →
    (is : IsFilledBin kind bin wd number new) → ArePrintableBins is.bins greatest_fc
filled_printable kind bin wd number new is =
    whole_printable (IsPageFor kind bin wd number) is.bins
    (record { ranges = is.ranges; apart = is.apart; numbers = is.numbers })

-- it is a bin table
pub filled_table : (kind : PageKind) (bin wd : List ℕ) (number : ℕ) (new : List ℕ) →
    IsFilledBin kind bin wd number new → IsBinTable new
filled_table kind bin wd number new is =
    subst IsBinTable (sym is.bytes)
    (printed_table is.bins greatest_fc (filled_printable kind bin wd number new is) (omega arith)).table

-- what it names at a place
pub filled_names : (kind : PageKind) (bin wd : List ℕ) (number : ℕ) (new : List ℕ) (fc page : ℕ) →
    IsFilledBin kind bin wd number new → IsBinPage new fc page →
    IsValidBefore (IsPageFor kind bin wd number) greatest_fc fc page
filled_names kind bin wd number new fc page is named =
    printed_right (IsPageFor kind bin wd number) 0 greatest_fc is.bins is.ranges
    (filled_printable kind bin wd number new is) (omega arith) fc page
    (subst (λ (b : List ℕ). IsBinPage b fc page) is.bytes named)

pub filled_bin_is_one : FilledBinIsOne
filled_bin_is_one kind bin wd number one other table a b =
    let bins : a.bins ≡ b.bins =
    ranges_one (IsPageFor kind bin wd number) (page_for_one kind bin wd number table) 0 greatest_fc a.bins b.bins
    a.ranges
    b.ranges a.apart b.apart in
    a.bytes ∙ (ap (λ (l : List Bin). printed_bin l greatest_fc) bins ∙ sym b.bytes)

-- ---- the lists

-- the page that a table names is one of the stream
pub named_within : (bin wd : List ℕ) (fc number : ℕ) → ArePagesWithin bin wd → IsBinPage bin fc number →
    (2 ≤ number) × (512 * number + 512 ≤ length wd)
named_within bin wd fc number within named =
    subst (λ n. (2 ≤ n) × (512 * n + 512 ≤ length wd)) (sym named.page) (within named.entry named.range.below)

-- the run without properties answers the bare list
empty_list : (kind : PageKind) (fc : ℕ) (answer : RunAnswer) (list : List ℕ) → fc < greatest_fc →
    HasRunAnswer kind empty_run_page fc answer → IsListAnswered kind empty_run_page answer list → list ≡ bare_list kind
empty_list kind fc answer list before answers is =
    let same : answer ≡ Empty =
    run_answer_one kind empty_run_page fc answer Empty answers (page_answers kind fc before) in
    subst (λ a. IsListAnswered kind empty_run_page a list) same is

pub filled_places_have_lists : FilledPlacesHaveLists
filled_places_have_lists kind bin wd new fc list table within is has =
    let number = has.number in
    let found = filled_names kind bin wd (next_page wd) new fc number is has.named in
    elim found.right [
      | inl gap ↦
          let page : page_at (with_empty_run wd) number ≡ empty_run_page =
          ap (page_at (with_empty_run wd)) gap.1 ∙ page_behind wd in
          inr (
            gap.0,
            empty_list kind fc has.answer list found.before
                (subst (λ p. HasRunAnswer kind p fc has.answer) page has.answers)
                (subst (λ p. IsListAnswered kind p has.answer list) page has.answered),
          )
      | inr own ↦
          let inside = (named_within bin wd fc number within own.1).1 in
          let page : page_at (with_empty_run wd) number ≡ page_at wd number = page_before wd number inside in
          inl (record {
            number = number;
            named = own.1;
            within = inside;
            answer = has.answer;
            answers = subst (λ p. HasRunAnswer kind p fc has.answer) page has.answers;
            answered = subst (λ p. IsListAnswered kind p has.answer list) page has.answered;
          })
    ]
