use Rattle.std.proofs.Common.{subst, sym}
use Rattle.prop_map.specs.Modifiers.{IsOver}
use Rattle.prop_map.proofs.MapLemmas.{is_over, over_one}
use Rattle.prop_map.proofs.laws.over_is_overlay.Goals as goal

pub returns : goal.returns
returns c = λ clear top base made. (
  over_one clear top base made,
  λ e. subst (IsOver clear top base) (sym e)
      (is_over clear top base),
)
