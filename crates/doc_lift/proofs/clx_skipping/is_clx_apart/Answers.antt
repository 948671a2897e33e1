use Rattle.std.proofs.Common.{◌≡◌, inl, inr, refl, sym, subst, arith}
use Rattle.std.proofs.lemmas.Bool.{cases_lt}
use Rattle.fib_form.specs.FibFields.{listed_pair}
use Rattle.fib_form.specs.TableParts.{pair_number}
use Rattle.fib_form.specs.declared.table_parts.TablePart.TheVariants.{PlfLst}
use Rattle.doc_meaning.specs.Apart.{IsPartApart, LevelsStandApart, clx_to}
use Rattle.doc_lift.proofs.clx_skipping.is_clx_apart.Goals as goal

pub returns-then-table_len-to : goal.returns-then-table_len-to
returns-then-table_len-to c = (
  λ t. absurd (cc t),
  λ apart.
      let within = apart.within in
      absurd (omega (arith, within, c.if-table_len-to.true, c.clx_end-to.ensures)),
)

pub returns-then-not-levels_stand_apart : goal.returns-then-not-levels_stand_apart
returns-then-not-levels_stand_apart c = (
  λ t. absurd (cc t),
  λ apart. c.if-not-levels_stand_apart.ensures.1
      (subst (LevelsStandApart c.clx_start-from.result c.clx_end-to.result c.args.table.now) (sym c.pair.ensures)
      (subst (λ to. LevelsStandApart c.clx_start-from.result to c.args.table.now
      (listed_pair c.args.early.now.pairs (pair_number PlfLst))) (sym c.clx_end-to.ensures)
      (subst (λ from. LevelsStandApart from (clx_to c.args.early.now.pairs) c.args.table.now
      (listed_pair c.args.early.now.pairs (pair_number PlfLst)))
      (sym c.clx_start-from.ensures) apart.levels))),
)

pub returns-then-not-is_apart : goal.returns-then-not-is_apart
returns-then-not-is_apart c = (
  λ t. absurd (cc t),
  λ apart. c.if-not-is_apart.ensures.1
      (subst (λ to. IsPartApart c.clx_start-from.result to c.args.early.now.pairs c.loop-n.n) (sym c.clx_end-to.ensures)
      (subst (λ from. IsPartApart from (clx_to c.args.early.now.pairs) c.args.early.now.pairs c.loop-n.n)
      (sym c.clx_start-from.ensures) (apart.parts c.loop-n.n (omega (arith, c.loop-n-test.true))))),
)

pub loop-n-preserved : goal.loop-n-preserved
loop-n-preserved c = λ m h. elim (cases_lt m c.loop-n.n) [
  | inl lo ↦ c.loop-n.invariant m lo
  | inr hi ↦
      let same : c.loop-n.n ≡ m = omega arith in
      subst (IsPartApart c.clx_start-from.result c.clx_end-to.result c.args.early.now.pairs) same
      (c.if-not-is_apart.ensures.0 refl)
]

pub returns : goal.returns
returns c = (
  λ t. record {
    within = omega (arith, c.clx_end-to.ensures, c.if-table_len-to.false);
    parts = λ n low.
        subst (λ from. IsPartApart from (clx_to c.args.early.now.pairs) c.args.early.now.pairs n)
        c.clx_start-from.ensures
        (subst (λ to. IsPartApart c.clx_start-from.result to c.args.early.now.pairs n) c.clx_end-to.ensures
        (c.loop-n.invariant n (omega (arith, low, c.loop-n-test.false))));
    levels =
        subst (λ from. LevelsStandApart from (clx_to c.args.early.now.pairs) c.args.table.now
        (listed_pair c.args.early.now.pairs (pair_number PlfLst)))
        c.clx_start-from.ensures
        (subst (λ to. LevelsStandApart c.clx_start-from.result to c.args.table.now
        (listed_pair c.args.early.now.pairs (pair_number PlfLst))) c.clx_end-to.ensures
        (subst (LevelsStandApart c.clx_start-from.result c.clx_end-to.result c.args.table.now) c.pair.ensures
        (c.if-not-levels_stand_apart.ensures.0 refl)));
  },
  λ apart. refl,
)
