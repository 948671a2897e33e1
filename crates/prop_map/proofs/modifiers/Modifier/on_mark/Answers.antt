use Rattle.std.proofs.Common.{false}
use Rattle.prop_map.specs.Formed.{paragraph_groups}
use Rattle.prop_map.proofs.ModifierLemmas.{IsPropertyMap-over}
use Rattle.prop_map.proofs.modifiers.Modifier.on_mark.Goals as goal

pub returns-clause-formed : goal.returns-clause-formed
returns-clause-formed c = λ by pap. IsPropertyMap-over paragraph_groups false c.args.self.now.pap c.args.pap.now _
    c.in_ok-over.ensures by.pap pap
