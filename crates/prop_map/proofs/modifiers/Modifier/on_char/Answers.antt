use Rattle.prop_map.specs.Formed.{character_groups}
use Rattle.prop_map.proofs.ModifierLemmas.{IsPropertyMap-over}
use Rattle.prop_map.proofs.modifiers.Modifier.on_char.Goals as goal

pub returns-clause-formed : goal.returns-clause-formed
returns-clause-formed c = λ by chp. IsPropertyMap-over character_groups c.args.self.now.clear c.args.self.now.chp
    c.args.chp.now _ c.in_ok-made.ensures by.chp chp
