use Rattle.std.proofs.Common.{arith}
use Rattle.char_formats.proofs.ChainLemmas.{said_by_slot, known_more}
use Rattle.char_formats.proofs.style_changes.change_over.Goals as goal

pub returns-then-at-len-2-clause-change : goal.returns-then-at-len-2-clause-change
returns-then-at-len-2-clause-change c =
    said_by_slot c.args.sheet.now c.args.istd c.args.below c.with_slot-change.result c.get.result c.get.ensures.style
    c.requires.below c.with_slot-change.ensures

pub returns-then-at-len-2-clause-known : goal.returns-then-at-len-2-clause-known
returns-then-at-len-2-clause-known c =
    known_more c.args.sheet.now c.args.known.now.items c.args.istd c.with_slot-change.result c.requires.known
    (said_by_slot c.args.sheet.now c.args.istd c.args.below c.with_slot-change.result c.get.result c.get.ensures.style
    c.requires.below c.with_slot-change.ensures) (grind (arith, c.if-at-len-2.true, c.len-2.ensures))

pub returns-else-at-len-2-clause-change : goal.returns-else-at-len-2-clause-change
returns-else-at-len-2-clause-change c =
    said_by_slot c.args.sheet.now c.args.istd c.args.below c.with_slot-change.result c.get.result c.get.ensures.style
    c.requires.below c.with_slot-change.ensures
