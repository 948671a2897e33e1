-- Where a stream has a list, the stream with skipped pages has it at the same place, skipped or as it was.
use Rattle.std.proofs.Common.{◌≡◌, ◌∙◌, inl, inr, ℕ, ◌+◌, ◌*◌, ◌≤◌, List, length, refl, sym, subst, arith}
use Rattle.doc_bits.proofs.Public.{length-range}
use Rattle.fkp_pages.specs.declared.kind.PageKind.{PageKind}
use Rattle.fkp_pages.specs.declared.kind.RunAnswer.{RunAnswer}
use Rattle.fkp_pages.specs.Fkp.{HasRunAnswer}
use Rattle.fkp_pages.specs.Bin.{page_at}
use Rattle.fkp_pages.specs.Properties.{IsListAnswered, HasListAt}
use Rattle.page_copies.specs.Pages.{BinTables, bin_table_of, SkipsPages}
use Rattle.page_copies.specs.Laws.{IsListCopy}
use Rattle.page_copies.proofs.AnswerLemmas.{copy_answers}
use Rattle.page_copies.proofs.NameLemmas.{page_named}
use Rattle.page_copies.proofs.ListLemmas.{IsKeptPage, kept_page}

-- the page answers so at the place, and its list is a copy of the other one
pub record HasListAfter (kind : PageKind) (page : List ℕ) (fc : ℕ) (answer : RunAnswer) (list : List ℕ) : Type 0 where
  pub answers : HasRunAnswer kind page fc answer
  pub made : List ℕ
  pub answered : IsListAnswered kind page answer made
  pub copy : IsListCopy kind list made

pub same_after : (kind : PageKind) (old new : List ℕ) (fc : ℕ) (answer : RunAnswer) (list : List ℕ) → new ≡ old →
    HasRunAnswer kind old fc answer → IsListAnswered kind old answer list → HasListAfter kind new fc answer list
same_after kind old new fc answer list same answers is = record {
  answers = subst (λ p. HasRunAnswer kind p fc answer) (sym same) answers;
  made = list;
  answered = subst (λ p. IsListAnswered kind p answer list) (sym same) is;
  copy = inr refl;
}

page_after : (kind : PageKind) (old new : List ℕ) (fc : ℕ) (answer : RunAnswer) (list : List ℕ) → length old ≡ 512 →
    IsKeptPage kind old new → HasRunAnswer kind old fc answer → IsListAnswered kind old answer list →
    HasListAfter kind new fc answer list
page_after kind old new fc answer list size (inl (inl skips)) answers is =
    let copy = copy_answers kind old new fc answer list size skips.1 answers is in
    record { answers = copy.answers; made = copy.made; answered = copy.answered; copy = inl copy.skips }
page_after kind old new fc answer list size (inl (inr stays)) answers is =
    same_after kind old new fc answer list stays.1 answers is
page_after kind old new fc answer list size (inr same) answers is =
    same_after kind old new fc answer list same answers is

pub list_after : (kind : PageKind) (bins : BinTables) (old new : List ℕ) (fc : ℕ) (list : List ℕ) →
    SkipsPages bins old new → (has : HasListAt kind (bin_table_of kind bins) old fc list) → 2 ≤ has.number →
    HasListAfter kind (page_at new has.number) fc has.answer list
list_after kind bins old new fc list skips has low =
    let number = has.number in
    let within = has.within in
    let size : length (page_at old number) ≡ 512 =
    length-range old (512 * number) (512 * number + 512) within ∙ (omega arith) in
    let kept = kept_page kind bins number (page_at old number) (page_at new number)
    (page_named (bin_table_of kind bins) fc number has.named) (skips.pages number low within) in
    page_after kind (page_at old number) (page_at new number) fc has.answer list size kept has.answers has.answered
