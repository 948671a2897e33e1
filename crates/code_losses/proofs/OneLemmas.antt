-- A file has one list of such codes.
use Rattle.std.specs.Prelude.{slice_range}
use Rattle.std.proofs.Common.{◌≡◌, ◌∙◌, ◌+◌, ◌/◌, sym, ap, subst, inl, inr, ℕ, List, [], ◌∷◌, length}
use Rattle.prl_skips.proofs.Public.{spelt_accepted}
use Rattle.sprm_table.specs.Sprm.{Prl}
use Rattle.sprm_table.proofs.Public.{spelt_unique}
use Rattle.fkp_pages.specs.declared.kind.PageKind.{PageKind}
use Rattle.fkp_pages.specs.declared.kind.PageKind.TheVariants as pages
use Rattle.fkp_pages.specs.Fkp.{least_list, page_run_count}
use Rattle.fkp_pages.specs.Bin.{page_at}
use Rattle.code_losses.specs.Counted.{IsFoundPrlList}
use Rattle.code_losses.specs.Pages.{IsFoundInRun, IsFoundInPage, AreListsOfPages}
use Rattle.code_losses.proofs.JoinLemmas.{joined_one}

pub found_one : (bytes : List ℕ) (one other : List (List Prl)) → IsFoundPrlList bytes one → IsFoundPrlList bytes other →
    one ≡ other
found_one bytes one other (inl a) (inl b) =
    a.1.1 ∙ (ap (λ prls. prls ∷ []) (spelt_unique bytes a.0 b.0 a.1.0 b.1.0) ∙ sym b.1.1)
found_one bytes one other (inl a) (inr b) = absurd (b.0 (spelt_accepted bytes a.0 a.1.0))
found_one bytes one other (inr a) (inl b) = absurd (a.0 (spelt_accepted bytes b.0 b.1.0))
found_one bytes one other (inr a) (inr b) = a.1 ∙ sym b.1

run_one : (kind : PageKind) (page : List ℕ) (run : ℕ) (one other : List (List Prl)) →
    IsFoundInRun kind page run one → IsFoundInRun kind page run other → one ≡ other
run_one kind page run one other (inl a) (inl b) =
    let from : b.from ≡ a.from = b.list.starts ∙ sym a.list.starts in
    let to : b.to ≡ a.to = b.list.ends ∙ sym a.list.ends in
    found_one (slice_range page (a.from + least_list kind) a.to) one other a.found_is
    (subst (λ t. IsFoundPrlList (slice_range page (a.from + least_list kind) t) other) to
    (subst (λ f. IsFoundPrlList (slice_range page (f + least_list kind) b.to) other) from b.found_is))
run_one kind page run one other (inl a) (inr b) = absurd (b.none a.from a.to a.list)
run_one kind page run one other (inr a) (inl b) = absurd (a.none b.from b.to b.list)
run_one kind page run one other (inr a) (inr b) = a.nothing ∙ sym b.nothing

page_one : (kind : PageKind) (wd bin : List ℕ) (number : ℕ) (one other : List (List Prl)) →
    IsFoundInPage kind wd bin number one → IsFoundInPage kind wd bin number other → one ≡ other
page_one kind wd bin number one other (inl a) (inl b) =
    let page = page_at wd number in
    joined_one (IsFoundInRun kind page) (page_run_count page) one other a.1 b.1 (run_one kind page)
page_one kind wd bin number one other (inl a) (inr b) = absurd (b.0 a.0)
page_one kind wd bin number one other (inr a) (inl b) = absurd (a.0 b.0)
page_one kind wd bin number one other (inr a) (inr b) = a.1 ∙ sym b.1

pub pages_one : (kind : PageKind) (wd bin : List ℕ) (one other : List (List Prl)) → AreListsOfPages kind wd bin one →
    AreListsOfPages kind wd bin other → one ≡ other
pages_one kind wd bin one other a b =
    joined_one (IsFoundInPage kind wd bin) (length wd / 512) one other a b (page_one kind wd bin)
