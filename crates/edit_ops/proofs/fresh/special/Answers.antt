use Rattle.std.proofs.Common.{◌≡◌, sym, subst, rules}
use Rattle.prop_map.specs.Formed.{IsPropertyMap, character_groups}
use Rattle.edit_ops.specs.Fresh.{special}
use Rattle.edit_ops.proofs.FreshLemmas.{special_formed}
use Rattle.edit_ops.proofs.fresh.special.Goals as goal

pub returns-clause-formed : goal.returns-clause-formed
returns-clause-formed c =
    let is : c.set.new.self ≡ special c.args.base.now = search rules in
    subst (IsPropertyMap character_groups) (sym is) (special_formed c.args.base.now c.requires)
