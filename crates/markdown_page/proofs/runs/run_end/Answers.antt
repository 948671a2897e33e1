use Rattle.std.proofs.Common.{◌≡◌, ◌+◌, ◌<◌, ℕ, true, inl, inr, sym, subst, arith}
use Rattle.std.specs.Prelude.{slice_index}
use Rattle.std.proofs.lemmas.Bool.{cases_lt}
use Rattle.markdown_page.specs.Runs.{goes_on}
use Rattle.markdown_page.proofs.runs.run_end.Goals as goal

pub loop-k-preserved : goal.loop-k-preserved
loop-k-preserved c =
    let old = c.loop-k in
    let units = c.args.units.now in
    λ i low below. elim (cases_lt i old.k) [
      | inl before ↦ old.invariant i low before
      | inr behind ↦
          let same : old.k ≡ i = omega (arith, behind, below) in
          subst (λ (n : ℕ). goes_on c.args.in_emphasis c.args.space (slice_index units n) ≡ true) same
          (sym c.if-not-goes_on.ensures)
    ]
