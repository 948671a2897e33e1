use Rattle.std.proofs.Common.{◌≡◌, ◌++◌, take}
use Rattle.std.specs.List.{flat_map}
use Rattle.document_commands.specs.SummaryLines.{shown_byte}
use Rattle.document_commands.proofs.summary_lines.push_shown.Given as goal

abbrev pub invariant-loop-byte : goal.invariant-loop-byte
invariant-loop-byte l = l.text ≡ l.initial.text ++ flat_map shown_byte (take l.byte-index l.bytes)
