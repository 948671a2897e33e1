use Rattle.std.proofs.Common.{refl, subst, arith}
use Rattle.std.proofs.lemmas.List.{take_all}
use Rattle.std.proofs.lemmas.List.Elements.{All-more}
use Rattle.std.specs.List.{All}
use Rattle.edit_ops.specs.Codes.{IsShownUnit}
use Rattle.edit_ops.proofs.codes.are_shown_units.Goals as goal

pub loop-unit-preserved : goal.loop-unit-preserved
loop-unit-preserved c =
    All-more IsShownUnit c.args.units.now c.loop-unit.unit-index _ (omega (arith, c.loop-unit-test.true))
    c.loop-unit.invariant (c.if-not-is_shown_unit.ensures.0 refl)

pub returns : goal.returns
returns c = (
  λ t.
      subst (All IsShownUnit) (take_all c.loop-unit.unit-index c.args.units.now (omega arith)) c.loop-unit.invariant,
  λ all. refl,
)
