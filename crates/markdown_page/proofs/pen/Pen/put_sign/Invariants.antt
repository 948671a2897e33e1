use Rattle.std.proofs.Common.{take}
use Rattle.markdown_page.specs.Pieces.{characters}
use Rattle.markdown_page.specs.Printed.{PutsTokens}
use Rattle.markdown_page.proofs.pen.Pen.put_sign.Given as goal

-- the characters so far were put
abbrev pub invariant-loop-byte : goal.invariant-loop-byte
invariant-loop-byte g l =
    PutsTokens g.K.Sink l.fn.out l.fn.self l.out l.self (characters (take l.byte-index l.text))
