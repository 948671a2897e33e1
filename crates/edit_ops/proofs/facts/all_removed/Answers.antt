use Rattle.std.proofs.Common.{arith}
use Rattle.doc_bits.proofs.Public.{All_at}
use Rattle.edit_ops.specs.EditFacts.{items_removed}
use Rattle.doc_patch.specs.Makes.{CanRemove}
use Rattle.edit_ops.proofs.SumLemmas.{sum_more, sum_within}
use Rattle.edit_ops.proofs.facts.all_removed.Goals as goal

pub count_removed-count-requires-clause-few : goal.count_removed-count-requires-clause-few
count_removed-count-requires-clause-few c =
    let within = sum_within (items_removed c.args.document.now) c.args.changes.now c.loop-i.i c.get.result.now
    c.get.ensures in
    let few = c.requires.few in
    omega arith

pub count_removed-count-requires-clause-there : goal.count_removed-count-requires-clause-there
count_removed-count-requires-clause-there c =
    All_at (CanRemove c.args.document.now) c.args.changes.now c.loop-i.i c.get.result.now c.requires.there c.get.ensures

pub overflow_add-count : goal.overflow_add-count
overflow_add-count c =
    let within = sum_within (items_removed c.args.document.now) c.args.changes.now c.loop-i.i c.get.result.now
    c.get.ensures in
    let few = c.requires.few in
    let before = c.loop-i.invariant in
    let one = c.count_removed-count.ensures in
    omega arith

pub loop-i-preserved : goal.loop-i-preserved
loop-i-preserved c =
    let more = sum_more (items_removed c.args.document.now) c.args.changes.now c.loop-i.i c.get.result.now
    c.get.ensures in
    let before = c.loop-i.invariant in
    let one = c.count_removed-count.ensures in
    omega arith
