use Rattle.std.proofs.Common.{◌-◌, List, length}
use Rattle.sprm_table.specs.Sprm.{Prl, SpellsSprmList}
use Rattle.prop_map.specs.Steps.{HasNotClearedUpTo}
use Rattle.prop_map.proofs.modifiers.clears.Given as goal

abbrev pub invariant-loop-code : goal.invariant-loop-code
invariant-loop-code l = (prls : List Prl) → SpellsSprmList l.list prls → HasNotClearedUpTo prls l.prls

abbrev pub decreases-loop-code : goal.decreases-loop-code
decreases-loop-code l = length l.prls.bytes - l.prls.at
