use Rattle.std.proofs.Common.{refl, subst, arith}
use Rattle.std.proofs.lemmas.List.{take_all}
use Rattle.std.specs.List.{All}
use Rattle.edit_ops.specs.Codes.{IsPutUnit}
use Rattle.edit_ops.proofs.codes.are_insertable_units.Goals as goal

pub returns : goal.returns
returns c = (
  λ t. subst (All IsPutUnit) (take_all c.loop-unit.unit-index c.args.units.now (omega arith)) c.loop-unit.invariant,
  λ all. refl,
)
