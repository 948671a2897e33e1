use Rattle.std.proofs.Common.{◌≡◌, ◌++◌, drop}
use Rattle.document_commands.specs.Lines.{stream_lines}
use Rattle.document_commands.proofs.listing.stream_text.Given as goal

-- with the lines of the streams that are left it is the whole text
abbrev pub invariant-loop-i : goal.invariant-loop-i
invariant-loop-i l = l.text ++ stream_lines (drop l.i l.container.streams) ≡ stream_lines l.container.streams
