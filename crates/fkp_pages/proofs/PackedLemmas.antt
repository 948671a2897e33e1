-- The pages that are made run by run are right for the runs.
use Rattle.std.proofs.Common.{◌≡◌, ◌↔◌, inl, inr, ℕ, zero, suc, ◌+◌, ◌<◌, ◌≤◌, true, false, IsTrue, ◌&&◌, cond, List}
use Rattle.std.proofs.Common.{[], ◌∷◌, ◌++◌, length, take, refl, ap, ◌∙◌, subst, arith, append_assoc, length-append}
use Rattle.std.specs.Prelude.{nat_le}
use Rattle.std.specs.List.{All}
use Rattle.std.proofs.Math.Dec.{leb}
use Rattle.std.proofs.lemmas.Bool.{le-leb}
use Rattle.std.proofs.lemmas.Bool.Decides.{leb_tells}
use Rattle.std.proofs.lemmas.List.{take-append-le}
use Rattle.std.proofs.lemmas.List.Elements.{All-head, All-tail}
use Rattle.doc_bits.proofs.Public.{both_true}
use Rattle.fkp_pages.specs.declared.kind.PageKind.{PageKind}
use Rattle.fkp_pages.specs.declared.lists.Run.{Run}
use Rattle.fkp_pages.specs.declared.packing.Pages.{Pages}
use Rattle.fkp_pages.specs.Fkp.{most_runs}
use Rattle.fkp_pages.specs.Runs.{IsWritableRun}
use Rattle.fkp_pages.specs.Packing.{page_items, IsPacking}
use Rattle.fkp_pages.specs.PageBytes.{FitsPage, limit_after, first_limit, entries_end}
use Rattle.fkp_pages.specs.Pages.{ArePagesOf}
use Rattle.fkp_pages.specs.Packed.{fits_page, packed_from, packed, pages_of, RunsHavePages}
use Rattle.fkp_pages.proofs.PackingLemmas.{packing_none}
use Rattle.fkp_pages.proofs.LimitLemmas.{fits_one}
use Rattle.fkp_pages.proofs.WholePages.{pages_are_one}

-- ---- the test

leb_true : (a b : ℕ) → leb a b ≡ true → a ≤ b
leb_true a b e = elim (leb_tells a b) [ inl yes_it ↦ yes_it.1 | inr no_it ↦ absurd (let f = no_it.0 in cc) ]

pub fits_page-Decides : (kind : PageKind) (runs : List Run) → IsTrue (fits_page kind runs) ↔ FitsPage kind runs
fits_page-Decides kind runs = (
  λ t.
      let both = both_true (nat_le (entries_end kind (length runs)) (limit_after kind first_limit runs))
      (nat_le (length runs) (most_runs kind)) t in
      record {
        room = leb_true (entries_end kind (length runs)) (limit_after kind first_limit runs) both.0;
        few = leb_true (length runs) (most_runs kind) both.1;
      },
  λ h.
      ap (λ b. b && nat_le (length runs) (most_runs kind)) (le-leb (entries_end kind (length runs)) (limit_after kind
      first_limit runs) h.room)
      ∙ le-leb (length runs) (most_runs kind) h.few,
)

-- ---- a page before others

module _ {A : Type 0} (Fits : List A → Type 0) (front rest : List A) (pages : List (List A)) (after : IsPacking Fits
    rest pages) (some : 0 < length front) (fits : Fits front) where
  each_some : (k : ℕ) → k < length (front ∷ pages) → 0 < length (page_items (front ∷ pages) k)
  each_some zero up = some
  each_some (suc k) up = after.some k (omega arith)

  each_fits : (k : ℕ) → k < length (front ∷ pages) → Fits (page_items (front ∷ pages) k)
  each_fits zero up = fits
  each_fits (suc k) up = after.fitting k (omega arith)

  each_full : ¬ (Fits (front ++ take 1 (page_items pages 0))) → (k : ℕ) → k + 1 < length (front ∷ pages) →
      ¬ (Fits (page_items (front ∷ pages) k ++ take 1 (page_items (front ∷ pages) (k + 1))))
  each_full full zero up more = full more
  each_full full (suc k) up more =
      let P : ℕ → Type 0 = λ i. Fits (page_items pages k ++ take 1 (page_items (front ∷ pages) i)) in
      let one : suc k + 1 ≡ suc (k + 1) = omega arith in
      after.full k (omega arith) (subst P one more)

  pub packing_before : ¬ (Fits (front ++ take 1 (page_items pages 0))) → IsPacking Fits (front ++ rest) (front ∷ pages)
  packing_before full = record {
    joined = ap (λ l. front ++ l) after.joined;
    some = each_some;
    fitting = each_fits;
    full = each_full full;
  }

packing_alone : {A : Type 0} (Fits : List A → Type 0) (front : List A) → 0 < length front → Fits front →
    IsPacking Fits (front ++ []) (front ∷ [])
packing_alone Fits front some fits = record {
  joined = refl;
  some = alone_some;
  fitting = alone_fits;
  full = λ k up. absurd (omega arith);
}
  where
    alone_some : (k : ℕ) → k < length (front ∷ []) → 0 < length (page_items (front ∷ []) k)
    alone_some zero up = some
    alone_some (suc k) up = absurd (omega arith)

    alone_fits : (k : ℕ) → k < length (front ∷ []) → Fits (page_items (front ∷ []) k)
    alone_fits zero up = fits
    alone_fits (suc k) up = absurd (omega arith)

-- ---- the pages from some first runs on

record IsPackedFrom (kind : PageKind) (front runs : List Run) (pages : List (List Run)) : Type 0 where
  packing : IsPacking (FitsPage kind) (front ++ runs) pages
  first : take 1 (page_items pages 0) ≡ take 1 front

packed_from_is : (kind : PageKind) (front runs : List Run) → 0 < length front → FitsPage kind front →
    All (IsWritableRun kind) runs → IsPackedFrom kind front runs (packed_from kind front runs)
unfolding packed_from
packed_from_is kind front [] some fits all = record {
  packing = packing_alone (FitsPage kind) front some fits;
  first = refl;
}
packed_from_is kind front (run ∷ runs) some fits all =
    let test = fits_page-Decides kind (front ++ run ∷ []) in
    let others = All-tail (IsWritableRun kind) run runs all in
    let len : length (front ++ run ∷ []) ≡ length front + 1 = length-append front (run ∷ []) in
    elim (fits_page kind (front ++ run ∷ [])) as (λ b. fits_page kind (front ++ run ∷ []) ≡ b → IsPackedFrom kind
    front (run ∷ runs) (cond b (packed_from kind (front ++ run ∷ []) runs) (front ∷ packed_from kind (run ∷ [])
    runs))) [
      | true ↦ λ e.
          let more = packed_from_is kind (front ++ run ∷ []) runs (omega arith) (test.0 e) others in
          record {
            packing = subst (λ l. IsPacking (FitsPage kind) l (packed_from kind (front ++ run ∷ []) runs))
                (append_assoc front (run ∷ []) runs) more.packing;
            first = more.first ∙ take-append-le 1 front (run ∷ []) (omega arith);
          }
      | false ↦ λ e.
          let next = packed_from_is kind (run ∷ []) runs (omega arith) (fits_one kind run (All-head (IsWritableRun
          kind) run runs all)) others in
          let full : ¬ (FitsPage kind (front ++ take 1 (page_items (packed_from kind (run ∷ []) runs) 0))) = λ more.
          let both : FitsPage kind (front ++ run ∷ []) = subst (λ l. FitsPage kind (front ++ l)) next.first more in
          let yes_it = test.1 both in cc
          in
          record {
            packing = packing_before (FitsPage kind) front (run ∷ runs) (packed_from kind (run ∷ []) runs)
                next.packing some fits full;
            first = refl;
          }
    ] refl

packed_is : (kind : PageKind) (runs : List Run) → All (IsWritableRun kind) runs → IsPacking (FitsPage kind) runs
    (packed kind runs)
packed_is kind [] all = packing_none (FitsPage kind)
packed_is kind (run ∷ runs) all =
    (packed_from_is kind (run ∷ []) runs (omega arith) (fits_one kind run (All-head (IsWritableRun kind) run runs
    all)) (All-tail (IsWritableRun kind) run runs all)).packing

pub runs_have_pages : RunsHavePages
runs_have_pages kind runs all = record {
  parts = packed kind runs;
  packed = packed_is kind runs all;
  bytes = refl;
  starts = refl;
}

-- so the pages of runs are these
pub pages_are_these : (kind : PageKind) (runs : List Run) (pages : Pages) → All (IsWritableRun kind) runs →
    ArePagesOf kind runs pages → pages ≡ pages_of kind runs
pages_are_these kind runs pages all are = pages_are_one kind runs pages (pages_of kind runs) are (runs_have_pages kind
    runs all)
