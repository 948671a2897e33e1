-- The property list of a byte place.
use Rattle.std.proofs.Common.{◌≡◌, ℕ, List, sym, ◌∙◌, subst, arith}
use Rattle.fkp_pages.specs.declared.kind.PageKind.{PageKind}
use Rattle.fkp_pages.specs.declared.kind.RunAnswer.{RunAnswer}
use Rattle.fkp_pages.specs.declared.kind.RunAnswer.TheVariants.{Found, Empty, NoRun, BadCount, Leaves}
use Rattle.fkp_pages.specs.Fkp.{HasRunAnswer}
use Rattle.fkp_pages.specs.Bin.{IsBinTable, page_at}
use Rattle.fkp_pages.specs.Properties.{IsListAnswered, HasListAt}
use Rattle.fkp_pages.proofs.BinLemmas.{bin_page_one}

-- one answer gives one list
answered_one : (kind : PageKind) (page : List ℕ) (answer : RunAnswer) (one other : List ℕ) → IsListAnswered kind page
    answer one → IsListAnswered kind page answer other → one ≡ other
answered_one kind page (Found from to) one other a b = a ∙ sym b
answered_one kind page Empty one other a b = a ∙ sym b
answered_one kind page NoRun one other a b = absurd a
answered_one kind page BadCount one other a b = absurd a
answered_one kind page (Leaves entry) one other a b = absurd a

-- one answer at a place
pub run_answer_one : (kind : PageKind) (page : List ℕ) (fc : ℕ) (one other : RunAnswer) → HasRunAnswer kind page fc
    one → HasRunAnswer kind page fc other → one ≡ other
run_answer_one kind page fc one other a b = grind arith

-- one list at a place
pub list_at_one : (kind : PageKind) (bin wd : List ℕ) (fc : ℕ) (one other : List ℕ) → IsBinTable bin →
    HasListAt kind bin wd fc one → HasListAt kind bin wd fc other → one ≡ other
list_at_one kind bin wd fc one other table a b =
    let number : b.number ≡ a.number = bin_page_one bin fc b.number a.number table b.named a.named in
    let answers : HasRunAnswer kind (page_at wd a.number) fc b.answer =
    subst (λ n. HasRunAnswer kind (page_at wd n) fc b.answer) number b.answers in
    let answer : b.answer ≡ a.answer = run_answer_one kind (page_at wd a.number) fc b.answer a.answer answers
    a.answers in
    let page : IsListAnswered kind (page_at wd a.number) b.answer other =
    subst (λ n. IsListAnswered kind (page_at wd n) b.answer other) number b.answered in
    let same : IsListAnswered kind (page_at wd a.number) a.answer other =
    subst (λ x. IsListAnswered kind (page_at wd a.number) x other) answer page in
    answered_one kind (page_at wd a.number) a.answer one other a.answered same
