use Rattle.std.proofs.Common.{below_more, arith}
use Rattle.plain_doc.specs.TextRules.{BreaksText}
use Rattle.plain_doc.proofs.PlaceLemmas.{HoldsInText, holds_here, list_holds, list_first}
use Rattle.plain_doc.proofs.rules_texts.first_in_list.Goals as goal

pub returns-in-Some : goal.returns-in-Some
returns-in-Some c =
    let first = rw (c.part-part.ensures, c.as_slice.ensures.items) at c.in-Some.ensures in
    rw c.part-part.ensures (list_first c.args.side c.args.texts.now
    (BreaksText c.args.rule c.args.sheet.now) c.loop-k.k c.in-Some.at c.get.result.now c.loop-k.invariant
    c.get.ensures first)

pub loop-k-preserved : goal.loop-k-preserved
loop-k-preserved c =
    let breaks = BreaksText c.args.rule c.args.sheet.now in
    let none = rw (c.part-part.ensures, c.as_slice.ensures.items) at c.in_default.ensures in
    below_more (HoldsInText c.args.side c.args.texts.now breaks) c.loop-k.k c.loop-k.invariant
    (holds_here c.args.side c.args.texts.now breaks c.loop-k.k c.get.result.now c.get.ensures none)

pub returns : goal.returns
returns c =
    list_holds c.args.side c.args.texts.now (BreaksText c.args.rule c.args.sheet.now) c.loop-k.k
    (omega (arith, c.len-k-end.ensures.len)) c.loop-k.invariant
