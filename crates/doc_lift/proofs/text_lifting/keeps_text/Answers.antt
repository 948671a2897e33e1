use Rattle.std.proofs.Common.{refl}
use Rattle.doc_lift.proofs.text_lifting.keeps_text.Goals as goal

pub returns-then-not-are_units : goal.returns-then-not-are_units
returns-then-not-are_units c = (λ t. absurd (cc t), λ keeps. c.if-not-are_units.ensures.1 keeps.0)

pub returns : goal.returns
returns c = (
  λ t. (c.if-not-are_units.ensures.0 refl, c.keeps_sepxs.ensures.0 t),
  λ keeps. c.keeps_sepxs.ensures.1 keeps.1,
)
