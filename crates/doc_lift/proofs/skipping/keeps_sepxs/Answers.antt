use Rattle.std.proofs.Common.{◌≡◌, inl, inr, refl, sym, ap, ◌∙◌, subst, arith}
use Rattle.std.proofs.lemmas.Bool.{cases_lt}
use Rattle.doc_meaning.specs.Skipped.{KeepsSepx, fc_sepx}
use Rattle.doc_lift.proofs.skipping.keeps_sepxs.Goals as goal

pub returns-then-not-keeps_sepx : goal.returns-then-not-keeps_sepx
returns-then-not-keeps_sepx c = (
  λ t. absurd (cc t),
  λ keeps. c.if-not-keeps_sepx.ensures.1 (subst (KeepsSepx c.args.old.now c.args.new.now) (sym c.fc_sepx_of.ensures)
      (keeps c.loop-k.k (omega (arith, c.loop-k-test.true, c.sed_count-k-end.ensures)))),
)

pub loop-k-preserved : goal.loop-k-preserved
loop-k-preserved c = λ m h. elim (cases_lt m c.loop-k.k) [
  | inl lo ↦ c.loop-k.invariant m lo
  | inr hi ↦
      let same : c.loop-k.k ≡ m = omega arith in
      subst (KeepsSepx c.args.old.now c.args.new.now) (c.fc_sepx_of.ensures ∙ ap (fc_sepx c.args.sections.now) same)
      (c.if-not-keeps_sepx.ensures.0 refl)
]

pub returns : goal.returns
returns c = (
  λ t m low. c.loop-k.invariant m (omega (arith, low, c.loop-k-test.false, c.sed_count-k-end.ensures)),
  λ keeps. refl,
)
