use Rattle.std.proofs.Common.{subst, sym}
use Rattle.prop_map.specs.Modifiers.{IsComposed}
use Rattle.prop_map.proofs.MapLemmas.{is_composed, composed_one}
use Rattle.prop_map.proofs.laws.composed_is_one.Goals as goal

pub returns : goal.returns
returns c = λ first next made. (
  composed_one first next made,
  λ e. subst (IsComposed first next) (sym e) (is_composed
      first next),
)
