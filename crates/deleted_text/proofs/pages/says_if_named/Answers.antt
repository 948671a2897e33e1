use Rattle.std.proofs.Common.{arith}
use Rattle.deleted_text.proofs.pages.says_if_named.Goals as goal

pub returns-then-mark-eq0 : goal.returns-then-mark-eq0
returns-then-mark-eq0 c = λ none is. absurd (omega (arith, is, c.if-mark-eq0.true))

pub returns : goal.returns
returns c = λ none is. c.says.ensures none
