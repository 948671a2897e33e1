use Rattle.std.proofs.Common.{◌≡◌, inl, inr, refl, subst, arith}
use Rattle.std.proofs.lemmas.Bool.{cases_lt}
use Rattle.page_copies.specs.Places.{IsClearRun}
use Rattle.page_copies.proofs.places.has_lists_apart.Goals as goal

pub returns-then-not-is_apart : goal.returns-then-not-is_apart
returns-then-not-is_apart c = (
  λ t. absurd (cc t),
  λ apart. c.if-not-is_apart.ensures.1
      (apart c.loop-run.run (omega (arith, c.loop-run-test.true, c.run_count-run-end.ensures))),
)

pub loop-run-preserved : goal.loop-run-preserved
loop-run-preserved c = λ k h. elim (cases_lt k c.loop-run.run) [
  | inl lo ↦ c.loop-run.invariant k lo
  | inr hi ↦
      let same : c.loop-run.run ≡ k = omega arith in
      subst (IsClearRun c.args.kind c.args.page.now) same (c.if-not-is_apart.ensures.0 refl)
]

pub returns : goal.returns
returns c = (
  λ t k low. c.loop-run.invariant k (omega (arith, c.loop-run-test.false, c.run_count-run-end.ensures)),
  λ apart. refl,
)
