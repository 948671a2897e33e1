-- A place is counted from the start, as the cursor is.
use Rattle.std.proofs.Common.{arith}
use Rattle.doc_columns.proofs.shared_text.border.Goals as goal

pub find-spot-requires-clause-within : goal.find-spot-requires-clause-within
find-spot-requires-clause-within g c = omega (arith, c.requires.at.begins, c.requires.ahead, c.requires.within)

pub overflow_sub-cursor : goal.overflow_sub-cursor
overflow_sub-cursor g c = omega (arith, c.find-spot.ensures.here, c.requires.at.begins, c.requires.ahead)
