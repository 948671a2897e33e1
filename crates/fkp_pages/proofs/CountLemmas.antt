-- Pages that are counted and not made.
use Rattle.std.proofs.Common.{◌≡◌, ◌∙◌, ℕ, ◌+◌, ◌-◌, ◌<◌, ◌≤◌, List, [], ◌∷◌, ◌++◌, length, take, drop, refl, ap, subst}
use Rattle.std.proofs.Common.{arith, length-append}
use Rattle.std.specs.List.{All}
use Rattle.std.proofs.lemmas.List.{take_rest}
use Rattle.fkp_pages.specs.declared.kind.PageKind.{PageKind}
use Rattle.fkp_pages.specs.declared.lists.Run.{Run}
use Rattle.fkp_pages.specs.declared.packing.Pages.{Pages}
use Rattle.fkp_pages.specs.Runs.{IsWritableRun}
use Rattle.fkp_pages.specs.PageBytes.{FitsPage, page_bytes}
use Rattle.fkp_pages.specs.Pages.{first_fc, ArePagesOf}
use Rattle.fkp_pages.specs.Packed.{pages_of}
use Rattle.fkp_pages.proofs.PagesSteps.{AreFirstPages, no_pages_yet, next_page, pages_done}
use Rattle.fkp_pages.proofs.PackedLemmas.{pages_are_these}

-- the first runs take so many pages
pub record AreCounted (kind : PageKind) (runs : List Run) (done count : ℕ) : Type 0 where
  pub bytes : List ℕ
  pub starts : List ℕ
  pub pages : AreFirstPages kind runs done bytes starts
  pub long : count ≡ length starts
  pub few : count ≤ done

pub none_counted : (kind : PageKind) (runs : List Run) → AreCounted kind runs 0 0
none_counted kind runs = record {
  bytes = [];
  starts = [];
  pages = no_pages_yet kind runs [] [] refl refl;
  long = refl;
  few = omega arith;
}

-- one page more
pub next_counted : (kind : PageKind) (runs rest : List Run) (done taken count : ℕ) → AreCounted kind runs done count →
    rest ≡ take (length runs - done) (drop done runs) → 0 < taken → taken ≤ length rest →
    FitsPage kind (take taken rest) → (taken < length rest → ¬ (FitsPage kind (take (taken + 1) rest))) →
    AreCounted kind runs (done + taken) (count + 1)
next_counted kind runs rest done taken count so is some within fits full =
    let rest_is : rest ≡ drop done runs = is ∙ take_rest runs done in
    let page = take taken (drop done runs) in
    let long = so.long in
    let few = so.few in
    record {
      bytes = so.bytes ++ page_bytes kind page;
      starts = so.starts ++ first_fc page ∷ [];
      pages = next_page kind runs page done taken so.bytes so.starts so.pages refl some
          (subst (λ (l : List Run). taken ≤ length l) rest_is within)
          (subst (λ (l : List Run). FitsPage kind (take taken l)) rest_is fits)
          (subst (λ (l : List Run). taken < length l → ¬ (FitsPage kind (take (taken + 1) l))) rest_is full);
      long = omega (arith, long, length-append so.starts (first_fc page ∷ []));
      few = omega (arith, few, some);
    }

-- all of them
pub all_counted : (kind : PageKind) (runs : List Run) (done count : ℕ) → All (IsWritableRun kind) runs →
    length runs ≤ done → AreCounted kind runs done count → count ≡ length (pages_of kind runs).starts
all_counted kind runs done count writable all so =
    let pages : Pages = record { bytes = so.bytes; starts = so.starts } in
    let are : ArePagesOf kind runs pages = record {
      parts = so.pages.parts;
      packed = pages_done kind runs done so.bytes so.starts so.pages all;
      bytes = so.pages.bytes_are;
      starts = so.pages.starts_are;
    } in
    so.long ∙ ap (λ (p : Pages). length p.starts) (pages_are_these kind runs pages writable are)
