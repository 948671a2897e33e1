use Rattle.std.proofs.Common.{◌≡◌, ◌+◌, arith}
use Rattle.edit_ops.proofs.RowLemmas.{edge_more, definition_is}
use Rattle.edit_ops.proofs.rows.row_definition.Goals as goal

pub loop-edge-preserved : goal.loop-edge-preserved
loop-edge-preserved c = edge_more c.args.cells c.args.width c.loop-edge.edge c.loop-edge.bytes _ c.loop-edge.invariant
    c.in_ok-push16.ensures.ok

pub returns : goal.returns
returns c =
    let past = c.loop-edge-test.false in
    let upto = c.loop-edge.auto.edge-end in
    let all : c.loop-edge.edge ≡ c.args.cells + 1 = omega arith in
    definition_is c.args.cells c.args.width c.loop-edge.edge c.loop-edge.bytes _ all c.loop-edge.invariant
    c.in_ok-push_zeros.ensures
