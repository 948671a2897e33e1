use Rattle.std.proofs.Common.{◌∷◌, take}
use Rattle.std.specs.Prelude.{flat_map}
use Rattle.json.specs.Print.{escape}
use Rattle.text_codes.specs.Digits.{byte_text}
use Rattle.json_values.specs.Out.{Adds}
use Rattle.json_values.proofs.digits.write_bytes.Given as goal

abbrev pub invariant-loop-byte : goal.invariant-loop-byte
invariant-loop-byte l = Adds l.fn.out l.out (34 ∷ escape (flat_map byte_text (take l.byte-index l.bytes)))
