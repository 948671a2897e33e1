use Rattle.std.proofs.Common.{arith}
use Rattle.char_formats.proofs.ChainLemmas.{below_next, change_upto, change_whole}
use Rattle.char_formats.proofs.style_changes.change_of_chain.Goals as goal

pub change_over-change-requires-clause-below : goal.change_over-change-requires-clause-below
change_over-change-requires-clause-below c =
    below_next c.args.sheet.now _ c.args.chain.now c.loop-i.i c.get.result c.loop-i.change c.requires.chain
    c.get.ensures c.loop-i.invariant.said

pub loop-i-preserved : goal.loop-i-preserved
loop-i-preserved c = record {
  said =
      change_upto c.args.sheet.now _ c.args.chain.now c.loop-i.i c.get.result c.change_over-change.result
      c.requires.chain c.get.ensures c.change_over-change.ensures.change;
  known = c.change_over-change.ensures.known;
}

pub returns-clause-change : goal.returns-clause-change
returns-clause-change c =
    change_whole c.args.sheet.now _ c.args.chain.now c.loop-i.i c.loop-i.change c.requires.chain (omega (
      arith,
      c.len-i-end.ensures,
    )) c.loop-i.invariant.said
