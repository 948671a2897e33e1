use Rattle.std.proofs.Common.{◌≡◌, inl, inr, refl, sym, subst, arith}
use Rattle.std.proofs.lemmas.Bool.{cases_lt}
use Rattle.doc_meaning.specs.Skipped.{StandsBehind}
use Rattle.doc_lift.proofs.skipping.is_sheet_first.Goals as goal

pub returns-then-not-stands_behind : goal.returns-then-not-stands_behind
returns-then-not-stands_behind c = (
  λ t. absurd (cc t),
  λ first. c.if-not-stands_behind.ensures.1
      (subst (λ place. StandsBehind c.args.early.now.pairs place c.loop-n.n) (sym c.sheet_end-to.ensures)
      (first.others c.loop-n.n (omega (arith, c.loop-n-test.true)))),
)

pub loop-n-preserved : goal.loop-n-preserved
loop-n-preserved c = λ m h. elim (cases_lt m c.loop-n.n) [
  | inl lo ↦ c.loop-n.invariant m lo
  | inr hi ↦
      let same : c.loop-n.n ≡ m = omega arith in
      subst (StandsBehind c.args.early.now.pairs c.sheet_end-to.result) same (c.if-not-stands_behind.ensures.0 refl)
]

pub returns : goal.returns
returns c = (
  λ t. record {
    within = omega (arith, c.sheet_end-to.ensures, c.if-table_len-to.false);
    others = λ n low. subst (λ place. StandsBehind c.args.early.now.pairs place n) c.sheet_end-to.ensures
        (c.loop-n.invariant n (omega (arith, low, c.loop-n-test.false)));
  },
  λ first. refl,
)
