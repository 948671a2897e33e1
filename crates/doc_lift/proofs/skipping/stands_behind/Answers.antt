use Rattle.std.proofs.Common.{refl, sym, subst}
use Rattle.doc_meaning.specs.Skipped.{StandsFrom}
use Rattle.doc_lift.proofs.skipping.stands_behind.Goals as goal

pub returns-then-n-eq-STSHF : goal.returns-then-n-eq-STSHF
returns-then-n-eq-STSHF c = (λ t differ. absurd (differ c.if-n-eq-STSHF.true), λ stands. refl)

pub returns : goal.returns
returns c = (
  λ t differ. subst (StandsFrom c.args.place) c.pair.ensures (c.stands_from.ensures.0 t),
  λ stands. c.stands_from.ensures.1 (subst (StandsFrom c.args.place) (sym c.pair.ensures) (stands c.if-n-eq-STSHF.false)),
)
