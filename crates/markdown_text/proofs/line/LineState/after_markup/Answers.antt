use Rattle.markdown_text.proofs.LineLemmas.{after_markups-more}
use Rattle.markdown_text.proofs.line.LineState.after_markup.Goals as goal

pub loop-byte-preserved : goal.loop-byte-preserved
loop-byte-preserved c =
    let more = after_markups-more c.args.self c.args.text.now c.loop-byte.byte-index c.loop-byte-test.true in
    let here = c.loop-byte.invariant in
    let next = c.after_byte-state.ensures in
    cc
