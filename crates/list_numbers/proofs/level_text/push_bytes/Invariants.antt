use Rattle.std.proofs.Common.{◌≡◌, ◌++◌, take}
use Rattle.list_numbers.proofs.level_text.push_bytes.Given as goal

abbrev pub invariant-loop-byte : goal.invariant-loop-byte
invariant-loop-byte l = l.units ≡ l.fn.units ++ take l.byte-index l.bytes
