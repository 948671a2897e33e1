use Rattle.std.proofs.Common.{◌≡◌, ◌∙◌, ◌+◌, ◌++◌, Some, sym, arith, drop, map, get_or}
use Rattle.std.specs.Prelude.{slice_get}
use Rattle.std.proofs.lemmas.Option.{slice_get-get_or}
use Rattle.cell_spans.specs.Spans.{cell_span}
use Rattle.cell_spans.proofs.WalkLemmas.{mapped_all, mapped_step, no_cell, row_there}
use Rattle.cell_spans.proofs.spans.Spans.push_row.Goals as goal

pub loop-cell-preserved : goal.loop-cell-preserved
loop-cell-preserved c =
    let k = c.loop-cell.cell-index in
    let cells = c.as_slice-cells.result.now in
    mapped_step (cell_span c.args.edges.now c.before_at-before.result.now (drop (c.args.number + 1) c.args.rows.now))
    c.args.self.now c.loop-cell.self c.push.new.self cells k (get_or cells k no_cell) c.cell_span-span.result
    (slice_get-get_or cells k no_cell (omega arith)) c.loop-cell.invariant c.cell_span-span.ensures
    c.in_ok-push.ensures

pub returns : goal.returns
returns c =
    let edges = c.args.edges.now in
    let rows = c.args.rows.now in
    let k = c.args.number in
    let rest = drop (k + 1) rows in
    let cells = c.as_slice-cells.result.now in
    let row = c.index-rows-number.result in
    let there : slice_get rows k ≡ Some row =
    slice_get-get_or rows k row (omega (arith, c.requires)) ∙ sym (λ i. Some (c.index-rows-number.is i)) in
    let same = c.as_slice-cells.ensures ∙ sym (row_there rows k row there) in
    mapped_all (cell_span edges c.before_at-before.result.now rest) c.args.self.now c.loop-cell.self cells
    c.loop-cell.cell-index (omega arith) c.loop-cell.invariant
    ∙ (λ i. c.args.self.now ++ map (cell_span edges (c.before_at-before.ensures i) rest) (same i))
