use Rattle.std.proofs.Common.{length}
use Rattle.json_values.proofs.SettingsLemmas.{ArePut}
use Rattle.json_values.proofs.settings.write_properties.Given as goal

abbrev pub invariant-loop-code : goal.invariant-loop-code
invariant-loop-code l = ArePut l.fn.out l.out l.later l.set l.left

abbrev pub decreases-loop-code : goal.decreases-loop-code
decreases-loop-code l = length l.left
