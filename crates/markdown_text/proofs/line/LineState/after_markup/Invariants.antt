use Rattle.std.proofs.Common.{◌≡◌, take}
use Rattle.markdown_text.specs.Lines.{after_markups}
use Rattle.markdown_text.proofs.line.LineState.after_markup.Given as goal

-- the line is behind the bytes so far
abbrev pub invariant-loop-byte : goal.invariant-loop-byte
invariant-loop-byte l = l.state ≡ after_markups l.fn.self (take l.byte-index l.text)
