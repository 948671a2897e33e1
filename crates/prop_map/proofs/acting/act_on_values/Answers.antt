use Rattle.std.proofs.Common.{subst}
use Rattle.prop_map.specs.Acting.{IsActedBy}
use Rattle.prop_map.proofs.acting.act_on_values.Goals as goal

pub returns-in_ok-acted-in-None : goal.returns-in_ok-acted-in-None
returns-in_ok-acted-in-None c = subst (λ m. IsActedBy c.args.list.now c.args.groups m c.in_ok-acted-in-None.acted)
    c.new-nothing.ensures c.in_ok-acted-in-None.ensures
