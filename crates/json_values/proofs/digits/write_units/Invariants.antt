use Rattle.std.proofs.Common.{◌∷◌, take}
use Rattle.std.specs.Prelude.{flat_map}
use Rattle.json.specs.Print.{escape}
use Rattle.text_codes.specs.Digits.{word_text}
use Rattle.json_values.specs.Out.{Adds}
use Rattle.json_values.proofs.digits.write_units.Given as goal

abbrev pub invariant-loop-unit : goal.invariant-loop-unit
invariant-loop-unit l = Adds l.fn.out l.out (34 ∷ escape (flat_map word_text (take l.unit-index l.units)))
