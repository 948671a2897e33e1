-- The lists of skipped pages, by the bin tables.
use Rattle.std.proofs.Common.{◌≡◌, ◌↔◌, ◌⊎◌, inl, inr, ℕ, ◌+◌, ◌*◌, ◌≤◌, Bool, true, false, List, length, drop, refl}
use Rattle.std.proofs.Common.{subst, arith}
use Rattle.prop_map.specs.declared.acting.Acted.{Acted}
use Rattle.prop_map.specs.Settings.{Properties}
use Rattle.prop_map.specs.Acting.{IsActedBy}
use Rattle.prl_skips.specs.Skips.{SkipsOrStays, HoldsNoPictures}
use Rattle.prl_skips.proofs.Public.{act_skips}
use Rattle.fkp_pages.specs.declared.kind.PageKind.{PageKind}
use Rattle.fkp_pages.specs.declared.kind.PageKind.TheVariants.{Chpx, Papx}
use Rattle.fkp_pages.specs.declared.kind.RunAnswer.{RunAnswer}
use Rattle.fkp_pages.specs.Fkp.{HasRunAnswer, least_list}
use Rattle.fkp_pages.specs.Bin.{page_at}
use Rattle.fkp_pages.specs.Properties.{IsListAnswered, HasListAt}
use Rattle.page_copies.specs.Names.{names_page}
use Rattle.page_copies.specs.Pages.{BinTables, bin_table_of, IsPageCopy, kind_alone, SkipsPage, SkipsPages}
use Rattle.page_copies.specs.Laws.{IsListCopy, ActsTheSame, HasListBefore}
use Rattle.page_copies.proofs.AnswerLemmas.{copy_answered}
use Rattle.page_copies.proofs.NameLemmas.{page_named}

-- ---- what lists do

or_stays : (old new : List ℕ) (groups : ℕ) (before : Properties) (acted : Acted) → HoldsNoPictures groups →
    SkipsOrStays old new → (IsActedBy new groups before acted ↔ IsActedBy old groups before acted)
or_stays old new groups before acted none s = elim s [
  | inl skips ↦ act_skips old new groups before acted none skips
  | inr stays ↦ rw stays.1 (λ h. h, λ h. h)
]

pub copy_acts : (kind : PageKind) (old new : List ℕ) → IsListCopy kind old new → ActsTheSame kind old new
copy_acts kind old new copy = elim copy [
  | inl skips ↦ record {
    istd = skips.istd;
    acts = λ groups before acted none. or_stays (drop (least_list kind) old) (drop (least_list kind) new) groups
        before acted none skips.sprms;
  }
  | inr same ↦ rw same (record { istd = refl; acts = λ groups before acted none. (λ h. h, λ h. h) })
]

-- ---- what a page answers

-- the page is skipped as one of this kind, or stays
abbrev pub IsKeptPage : PageKind → List ℕ → List ℕ → Type 0
IsKeptPage kind old new = IsPageCopy kind old new ⊎ (new ≡ old)

kept_characters : (c p : Bool) (old new : List ℕ) → c ≡ true → SkipsPage (kind_alone c p) old new →
    IsKeptPage Chpx old new
kept_characters true true old new e skips = inr skips
kept_characters true false old new e skips = inl skips
kept_characters false p old new e skips = absurd (cc e)

kept_paragraphs : (c p : Bool) (old new : List ℕ) → p ≡ true → SkipsPage (kind_alone c p) old new →
    IsKeptPage Papx old new
kept_paragraphs true true old new e skips = inr skips
kept_paragraphs false true old new e skips = inl skips
kept_paragraphs true false old new e skips = absurd (cc e)
kept_paragraphs false false old new e skips = absurd (cc e)

pub kept_page : (kind : PageKind) (bins : BinTables) (number : ℕ) (old new : List ℕ) →
    names_page (bin_table_of kind bins) number ≡ true →
    SkipsPage (kind_alone (names_page bins.characters number) (names_page bins.paragraphs number)) old new →
    IsKeptPage kind old new
kept_page Chpx bins number old new named skips =
    kept_characters (names_page bins.characters number) (names_page bins.paragraphs number) old new named skips
kept_page Papx bins number old new named skips =
    kept_paragraphs (names_page bins.characters number) (names_page bins.paragraphs number) old new named skips

-- what a page answers, from what it answers once it is skipped
abbrev AnswersBefore : PageKind → List ℕ → ℕ → List ℕ → Type 0
AnswersBefore kind old fc made =
    (before : RunAnswer) × ((list : List ℕ) × (HasRunAnswer kind old fc before
    × (IsListAnswered kind old before list × IsListCopy kind list made)))

same_before : (kind : PageKind) (old new : List ℕ) (fc : ℕ) (answer : RunAnswer) (made : List ℕ) → new ≡ old →
    HasRunAnswer kind new fc answer → IsListAnswered kind new answer made → AnswersBefore kind old fc made
same_before kind old new fc answer made same answers is = (
  answer,
  (
    made,
    (
      subst (λ p. HasRunAnswer kind p fc answer) same answers,
      (subst (λ p. IsListAnswered kind p answer made) same is, inr refl),
    ),
  ),
)

page_before : (kind : PageKind) (old new : List ℕ) (fc : ℕ) (answer : RunAnswer) (made : List ℕ) →
    IsKeptPage kind old new → HasRunAnswer kind new fc answer → IsListAnswered kind new answer made →
    AnswersBefore kind old fc made
page_before kind old new fc answer made (inr same) answers is = same_before kind old new fc answer made same answers is
page_before kind old new fc answer made (inl (inr stays)) answers is =
    same_before kind old new fc answer made stays.1 answers is
page_before kind old new fc answer made (inl (inl skips)) answers is =
    let back = copy_answered kind old new fc answer made skips.0.1 skips.1 answers is in
    (back.answer, (back.list, (back.answers, (back.answered, inl back.skips))))

-- ---- lists by the bin tables

pub list_before : (kind : PageKind) (bins : BinTables) (old new : List ℕ) (fc : ℕ) (made : List ℕ) →
    SkipsPages bins old new → (has : HasListAt kind (bin_table_of kind bins) new fc made) → 2 ≤ has.number →
    HasListBefore kind (bin_table_of kind bins) old fc made
list_before kind bins old new fc made skips has low =
    let number = has.number in
    let len = skips.len in
    let there = has.within in
    let within : 512 * number + 512 ≤ length old = omega (arith, there, len) in
    let named = page_named (bin_table_of kind bins) fc number has.named in
    let kept = kept_page kind bins number (page_at old number) (page_at new number) named
    (skips.pages number low within) in
    let back = page_before kind (page_at old number) (page_at new number) fc has.answer made kept has.answers
    has.answered in
    record {
      list = back.1.0;
      has = record {
        number = number;
        named = has.named;
        within = within;
        answer = back.0;
        answers = back.1.1.0;
        answered = back.1.1.1.0;
      };
      low = low;
      copy = back.1.1.1.1;
    }
