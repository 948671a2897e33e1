use Rattle.std.proofs.Common.{◌∙◌, sym, arith}
use Rattle.std.proofs.lemmas.Bool.{ltb-true, ltb-false}
use Rattle.doc_places.specs.Places.{lead}
use Rattle.doc_html.proofs.anchors.next_anchor.Goals as goal

pub overflow_add-number : goal.overflow_add-number
overflow_add-number c = let more = c.begins_before.ensures.more c.loop-number-test.true in omega (arith, more)

pub loop-number-preserved : goal.loop-number-preserved
loop-number-preserved c =
    let less = ltb-true c.loop-number.number (lead c.args.bookmarks.now c.args.end) (sym c.begins_before.ensures.is ∙
    c.loop-number-test.true) in
    omega (arith, less)

pub returns : goal.returns
returns c =
    let high = c.loop-number.invariant in
    let more = ltb-false c.loop-number.number (lead c.args.bookmarks.now c.args.end) (sym c.begins_before.ensures.is ∙
    c.loop-number-test.false) in
    omega (arith, high, more)
