-- The gaps of a text that is loaded in place of the one that the streams name are gaps of that text.
use Rattle.std.proofs.Common.{◌≡◌, ◌∙◌, ◌+◌, ◌*◌, ◌<◌, ◌≤◌, sym, ap, subst, inl, inr, ℕ, List, length, Bool, true, false}
use Rattle.std.proofs.Common.{arith}
use Rattle.fib_form.specs.Fib.{form_size}
use Rattle.fib_form.specs.declared.form.Form.TheVariants.{Early}
use Rattle.fkp_pages.specs.declared.kind.PageKind.{PageKind}
use Rattle.fkp_pages.specs.declared.kind.PageKind.TheVariants.{Chpx, Papx}
use Rattle.fkp_pages.specs.declared.kind.RunAnswer.{RunAnswer}
use Rattle.fkp_pages.specs.declared.kind.RunAnswer.TheVariants.{Found, Empty, NoRun, BadCount, Leaves}
use Rattle.fkp_pages.specs.Fkp.{page_run_count, HoldsFc}
use Rattle.fkp_pages.specs.Fkp.{HasNoRun, LeavesPage, HasRunAnswer}
use Rattle.fkp_pages.specs.Bin.{HasNoBin, IsBinPage, page_at}
use Rattle.fkp_gaps.specs.Gaps.{IsGapAnswer, IsGap}
use Rattle.page_copies.specs.Names.{names_page}
use Rattle.page_copies.specs.Places.{HasListsApart}
use Rattle.page_copies.specs.Copies.{IsCopyOf}
use Rattle.page_copies.specs.Pages.{BinTables, bin_table_of, kind_alone, SkipsPage, SkipsPages}
use Rattle.page_copies.proofs.Public.{page_named, IsKeptPage, counted_back, entry_same, fc_same}
use Rattle.file_rules.specs.FileRules.{FileText}
use Rattle.doc_meaning.specs.Skipped.{bin_tables_of}
use Rattle.doc_meaning.specs.Loaded.{MaySkipPages, IsLoadedFor}
use Rattle.doc_meaning.proofs.BehindLemmas.{range_behind, length_behind}
use Rattle.doc_meaning.proofs.LoadedLemmas.{bin_same}

-- ---- a page whose codes are skipped

none_before : (kind : PageKind) (old new : List ℕ) (fc : ℕ) → IsCopyOf kind old new → HasNoRun new fc → HasNoRun old fc
none_before kind old new fc copy none = λ run below holds.
    let first = fc_same kind old new run copy (omega (arith, below)) in
    let next = fc_same kind old new (run + 1) copy (omega (arith, below)) in
    none run (omega (arith, below, copy.count)) (record {
      from = omega (arith, holds.from, first);
      to = omega (arith, holds.to, next);
    })

-- no list of such a page leaves it
none_leaves : (kind : PageKind) (old new : List ℕ) (run entry : ℕ) → HasListsApart kind old → IsCopyOf kind old new →
    run < page_run_count old → LeavesPage kind new run entry → ⊥
none_leaves kind old new run entry apart copy low leaves = elim (apart run low) [
  | inl none ↦ leaves.some (entry_same kind old new run copy low ∙ none)
  | inr has ↦
      let p = has.place in
      leaves.beyond ((copy.lists run p.from p.to low has.is.list).0.within)
]

-- the page answers a gap
abbrev AnswersGap : PageKind → List ℕ → ℕ → RunAnswer → Type 0
AnswersGap kind page fc answer = HasRunAnswer kind page fc answer × IsGapAnswer kind page answer

copy_gap : (kind : PageKind) (old new : List ℕ) (fc : ℕ) (answer : RunAnswer) → HasListsApart kind old →
    IsCopyOf kind old new → AnswersGap kind new fc answer → AnswersGap kind old fc answer
copy_gap kind old new fc (Found from to) apart copy is = absurd is.1
copy_gap kind old new fc Empty apart copy is = absurd is.1
copy_gap kind old new fc NoRun apart copy is =
    ((counted_back kind old new copy is.0.0, none_before kind old new fc copy is.0.1), tt)
copy_gap kind old new fc BadCount apart copy is = absurd is.1
copy_gap kind old new fc (Leaves entry) apart copy is =
    let below = is.0.1.first.below in
    absurd (none_leaves kind old new is.0.1.run entry apart copy (omega (arith, below, copy.count)) is.0.1.answers)

kept_gap : (kind : PageKind) (old new : List ℕ) (fc : ℕ) (answer : RunAnswer) → IsKeptPage kind old new →
    AnswersGap kind new fc answer → AnswersGap kind old fc answer
kept_gap kind old new fc answer (inr same) is = subst (λ (p : List ℕ). AnswersGap kind p fc answer) same is
kept_gap kind old new fc answer (inl (inr stays)) is =
    subst (λ (p : List ℕ). AnswersGap kind p fc answer) stays.1 is
kept_gap kind old new fc answer (inl (inl skips)) is = copy_gap kind old new fc answer skips.0.1 skips.1 is

-- ---- the pages of a stream

-- the table of the kind names the page: whether that of the characters does, and that of the paragraphs
abbrev IsOwn : PageKind → Bool → Bool → Type 0
IsOwn Chpx characters paragraphs = characters ≡ true
IsOwn Papx characters paragraphs = paragraphs ≡ true

-- such a page is skipped as one of the kind, or stays
kept_alone : (kind : PageKind) (c p : Bool) (old new : List ℕ) → IsOwn kind c p → SkipsPage (kind_alone c p) old new →
    IsKeptPage kind old new
kept_alone Chpx true true old new own skips = inr skips
kept_alone Chpx true false old new own skips = inl skips
kept_alone Chpx false p old new own skips = absurd (cc own)
kept_alone Papx true true old new own skips = inr skips
kept_alone Papx false true old new own skips = inl skips
kept_alone Papx true false old new own skips = absurd (cc own)
kept_alone Papx false false old new own skips = absurd (cc own)

own_named : (kind : PageKind) (bins : BinTables) (number : ℕ) → names_page (bin_table_of kind bins) number ≡ true →
    IsOwn kind (names_page bins.characters number) (names_page bins.paragraphs number)
own_named Chpx bins number named = named
own_named Papx bins number named = named

page_gap : (kind : PageKind) (old : FileText) (pages : List ℕ) (fc number : ℕ) (answer : RunAnswer) →
    MaySkipPages old pages → IsBinPage (bin_table_of kind (bin_tables_of old.wd old.table)) fc number → 2 ≤ number →
    512 * number + 512 ≤ length old.wd → AnswersGap kind (page_at pages number) fc answer →
    AnswersGap kind (page_at old.wd number) fc answer
page_gap kind old pages fc number answer (inr same) named low within is =
    subst (λ (w : List ℕ). AnswersGap kind (page_at w number) fc answer) same is
page_gap kind old pages fc number answer (inl skips) named low within is =
    let bins = bin_tables_of old.wd old.table in
    let own = own_named kind bins number (page_named (bin_table_of kind bins) fc number named) in
    kept_gap kind (page_at old.wd number) (page_at pages number) fc answer
    (kept_alone kind (names_page bins.characters number) (names_page bins.paragraphs number) (page_at old.wd number)
    (page_at pages number) own (skips.pages number low within)) is

pages_long : (old : FileText) (pages : List ℕ) → MaySkipPages old pages → length pages ≡ length old.wd
pages_long old pages (inl skips) = skips.len
pages_long old pages (inr same) = ap length same

-- ---- the text

pub gap_kept : (kind : PageKind) (old new : FileText) (fc : ℕ) → IsLoadedFor old new →
    IsGap kind (bin_table_of kind (bin_tables_of new.wd new.table)) new.wd fc →
    IsGap kind (bin_table_of kind (bin_tables_of old.wd old.table)) old.wd fc
gap_kept kind old new fc loaded (inl none) =
    inl (subst (λ bin. HasNoBin bin fc) (bin_same kind old new loaded) none)
gap_kept kind old new fc loaded (inr gap) =
    let number = gap.number in
    let pages = loaded.pages in
    let low = gap.low in
    let there = gap.within in
    let len = length_behind pages new.wd (form_size Early) loaded.behind (omega (arith, low, there)) in
    let long = pages_long old pages loaded.kept_pages in
    let within : 512 * number + 512 ≤ length old.wd = omega (arith, there, len, long) in
    let page : page_at new.wd number ≡ page_at pages number =
    range_behind pages new.wd (form_size Early) (512 * number) (512 * number + 512) loaded.behind
    (omega (arith, low)) in
    let named = subst (λ bin. IsBinPage bin fc number) (bin_same kind old new loaded) gap.named in
    let found = page_gap kind old pages fc number gap.answer loaded.kept_pages named low within
    (subst (λ (p : List ℕ). AnswersGap kind p fc gap.answer) page (gap.answers, gap.gap)) in
    inr (record {
      number = number;
      named = named;
      low = low;
      within = within;
      answer = gap.answer;
      answers = found.0;
      gap = found.1;
    })
