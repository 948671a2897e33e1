-- Runs as they are tested, one after the other.
use Rattle.std.proofs.Common.{◌≡◌, ℕ, ◌+◌, ◌-◌, ◌<◌, ◌≤◌, List, length, get_or, sym, ap, ◌∙◌, subst, arith}
use Rattle.std.proofs.Common.{below_more, ◌==◌, ◌↔◌, eq-eqb}
use Rattle.std.specs.Prelude.{IsTrue}
use Rattle.std.proofs.lemmas.Bool.{eqb-true}
use Rattle.std.proofs.lemmas.List.{get_or_default}
use Rattle.std.proofs.lemmas.Option.{get_or_from_slice_get, slice_get_within}
use Rattle.fkp_pages.specs.declared.kind.PageKind.{PageKind}
use Rattle.fkp_pages.specs.declared.lists.Run.{Run}
use Rattle.fkp_pages.specs.Runs.{IsWritableRun, AreRuns}

-- the first runs are writable and touch
pub record AreRunsUpTo (kind : PageKind) (runs : List Run) (n : ℕ) : Type 0 where
  pub writable : (k : ℕ) → k < n → (d : Run) → IsWritableRun kind (get_or runs k d)
  pub touch : (k : ℕ) → k < n → (d : Run) → 0 < k → (get_or runs (k - 1) d).to ≡ (get_or runs k d).from

-- a run more
pub run_more : (kind : PageKind) (runs : List Run) (i : ℕ) (run : Run) → AreRunsUpTo kind runs i → i < length runs →
    IsWritableRun kind (get_or runs i run) → ((d : Run) → 0 < i → (get_or runs (i - 1) d).to ≡ (get_or runs i d).from)
    → AreRunsUpTo kind runs (i + 1)
run_more kind runs i run h up writable touch = record {
  writable = below_more (λ k. (d : Run) → IsWritableRun kind (get_or runs k d)) i h.writable
      (λ d. subst (IsWritableRun kind) (get_or_default runs i run d up) writable);
  touch = below_more (λ k. (d : Run) → 0 < k → (get_or runs (k - 1) d).to ≡ (get_or runs k d).from) i h.touch touch;
}

-- all of them
pub runs_all : (kind : PageKind) (runs : List Run) (n : ℕ) → length runs ≤ n → AreRunsUpTo kind runs n →
    AreRuns kind runs
runs_all kind runs n all h = record {
  writable = λ k d up. h.writable k (omega arith) d;
  touch = λ k run next here there.
      let up = slice_get_within runs (k + 1) next there in
      let same : k + 1 - 1 ≡ k = omega arith in
      sym (ap (λ (x : Run). x.to) (get_or_from_slice_get runs k run run here))
      ∙ (ap (λ j. (get_or runs j run).to) (sym same)
      ∙ (h.touch (k + 1) (omega arith) run (omega arith) ∙ ap (λ (x : Run). x.from) (get_or_from_slice_get runs
      (k + 1) next run there)));
}

-- a test of two runs
pub touch_test : (runs : List Run) (i : ℕ) (last run : Run) → 0 < i → i < length runs →
    IsTrue ((get_or runs (i - 1) last).to == (get_or runs i run).from) ↔ ((d : Run) → 0 < i →
    (get_or runs (i - 1) d).to ≡ (get_or runs i d).from)
touch_test runs i last run some up =
    let before : i - 1 < length runs = omega arith in (
      λ t d _. ap (λ (x : Run). x.to) (get_or_default runs (i - 1) d last before) ∙ (eqb-true _ _ t ∙ ap (λ (x : Run).
          x.from) (get_or_default runs i run d up)),
      λ h. eq-eqb _ _ (ap (λ (x : Run). x.to) (get_or_default runs (i - 1) last run before) ∙ h run some),
    )
