use Rattle.std.proofs.Common.{false}
use Rattle.prop_map.specs.Formed.{character_groups, paragraph_groups}
use Rattle.prop_map.proofs.ModifierLemmas.{IsPropertyMap-over}
use Rattle.prop_map.proofs.modifiers.Modifier.compose.Goals as goal

pub returns-clause-formed : goal.returns-clause-formed
returns-clause-formed c = λ first next. record {
  chp = IsPropertyMap-over character_groups c.args.then.now.clear c.args.then.now.chp c.args.first.now.chp _
      c.in_ok-over.ensures next.chp first.chp;
  pap = IsPropertyMap-over paragraph_groups false c.args.then.now.pap c.args.first.now.pap _ c.in_ok-over-2.ensures
      next.pap first.pap;
}
