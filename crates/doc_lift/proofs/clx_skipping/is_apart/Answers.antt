use Rattle.std.proofs.Common.{refl, sym, subst}
use Rattle.doc_meaning.specs.Apart.{StandsApart}
use Rattle.doc_lift.proofs.clx_skipping.is_apart.Goals as goal

pub returns-then-n-eq-CLX : goal.returns-then-n-eq-CLX
returns-then-n-eq-CLX c = (λ t differ. absurd (differ c.if-n-eq-CLX.true), λ stands. refl)

pub returns : goal.returns
returns c = (
  λ t differ. subst (StandsApart c.args.from c.args.to) c.pair.ensures (c.stands_apart.ensures.0 t),
  λ stands. c.stands_apart.ensures.1
      (subst (StandsApart c.args.from c.args.to) (sym c.pair.ensures) (stands c.if-n-eq-CLX.false)),
)
