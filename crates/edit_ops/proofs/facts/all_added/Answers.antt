use Rattle.std.proofs.Common.{arith}
use Rattle.edit_ops.specs.EditFacts.{items_added}
use Rattle.edit_ops.proofs.SumLemmas.{sum_more, sum_within}
use Rattle.edit_ops.proofs.facts.all_added.Goals as goal

pub count_added-count-requires : goal.count_added-count-requires
count_added-count-requires c =
    let within = sum_within items_added c.args.changes.now c.loop-i.i c.get.result.now c.get.ensures in
    let few = c.requires in
    omega arith

pub overflow_add-count : goal.overflow_add-count
overflow_add-count c =
    let within = sum_within items_added c.args.changes.now c.loop-i.i c.get.result.now c.get.ensures in
    let few = c.requires in
    let before = c.loop-i.invariant in
    let one = c.count_added-count.ensures in
    omega arith

pub loop-i-preserved : goal.loop-i-preserved
loop-i-preserved c =
    let more = sum_more items_added c.args.changes.now c.loop-i.i c.get.result.now c.get.ensures in
    let before = c.loop-i.invariant in
    let one = c.count_added-count.ensures in
    omega arith
