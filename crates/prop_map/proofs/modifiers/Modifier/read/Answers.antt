use Rattle.std.proofs.Common.{sym, subst}
use Rattle.prop_map.specs.Formed.{IsPropertyMap, character_groups, paragraph_groups}
use Rattle.prop_map.specs.Acting.{ArePropertiesAfter}
use Rattle.prop_map.proofs.ActingLemmas.{IsPropertyMap-empty}
use Rattle.prop_map.proofs.ModifierLemmas.{does_as_listed}
use Rattle.prop_map.proofs.modifiers.Modifier.read.Goals as goal

pub returns-clause-parts : goal.returns-clause-parts
returns-clause-parts c = λ prls h.
    let characters = c.in_ok-characters.ensures.acted prls h in
    let marks = c.in_ok-marks.ensures.acted prls h in
    record {
      style = marks.style;
      marks = subst (λ old. ArePropertiesAfter prls paragraph_groups old c.in_ok-marks.marks.map) c.new-none.ensures
          marks.map;
      clear = c.clears.ensures prls h;
      characters = subst (λ old. ArePropertiesAfter prls character_groups old c.in_ok-characters.characters.map)
          c.new-none.ensures characters.map;
    }

pub returns-clause-acts : goal.returns-clause-acts
returns-clause-acts c = λ prls h. does_as_listed prls _ (returns-clause-parts c prls h)

pub returns-clause-formed : goal.returns-clause-formed
returns-clause-formed c = record {
  chp = c.in_ok-characters.ensures.formed (subst (IsPropertyMap character_groups) (sym c.new-none.ensures)
      (IsPropertyMap-empty character_groups));
  pap = c.in_ok-marks.ensures.formed (subst (IsPropertyMap paragraph_groups) (sym c.new-none.ensures)
      (IsPropertyMap-empty paragraph_groups));
}
