use Rattle.std.proofs.Common.{inl, inr, refl, sym, subst, arith}
use Rattle.std.proofs.lemmas.Bool.{cases_eq, false≢true}
use Rattle.std.proofs.lemmas.Option.{slice_get_within}
use Rattle.cfb_in_place.specs.Contract.{FitsChange}
use Rattle.cfb_in_place.proofs.allowed.all_fit.Goals as goal

pub returns-then-not-fits : goal.returns-then-not-fits
returns-then-not-fits c = (λ t. absurd (false≢true t), λ all. c.if-not-fits.ensures.1 (all c.loop-i.i))

pub loop-i-preserved : goal.loop-i-preserved
loop-i-preserved c j h = elim (cases_eq j c.loop-i.i) [
  | inl e ↦ subst (λ n. FitsChange c.args.container.now c.args.change.now n) (sym e) (c.if-not-fits.ensures.0 refl)
  | inr ne ↦ c.loop-i.invariant j (omega arith)
]

pub returns : goal.returns
returns c = (
  λ t i is.
      let low = slice_get_within c.args.container.now.streams i is.stream is.here in
      let end = c.count-i-end.ensures in
      let past = c.loop-i-test.false in
      c.loop-i.invariant i (omega arith) is,
  λ all. refl,
)
