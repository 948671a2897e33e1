use Rattle.std.proofs.Common.{length, arith}
use Rattle.edit_ops.proofs.SumLemmas.{range_more, range_within}
use Rattle.edit_ops.proofs.facts.items_in.Goals as goal

pub overflow_add-count : goal.overflow_add-count
overflow_add-count c =
    let within = range_within length c.args.texts.now c.args.from c.args.to c.loop-k.k c.get.result.now (omega arith)
    (omega arith) c.get.ensures in
    let few = c.requires.few in
    let before = c.loop-k.invariant in
    let len = c.len.ensures.len in
    omega arith

pub loop-k-preserved : goal.loop-k-preserved
loop-k-preserved c =
    let more = range_more length c.args.texts.now c.args.from c.loop-k.k c.get.result.now (omega arith) c.get.ensures in
    let before = c.loop-k.invariant in
    let len = c.len.ensures.len in
    omega arith
