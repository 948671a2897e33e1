use Rattle.std.proofs.Common.{◌∙◌, ◌++◌, List, sym, ap, arith, append-nil}
use Rattle.doc_bits.proofs.Public.{there_is}
use Rattle.cell_spans.specs.declared.rows.RowCell.{RowCell}
use Rattle.cell_spans.proofs.WalkLemmas.{cells_end, cells_step}
use Rattle.cell_spans.proofs.rows.cells_of.Goals as goal

pub loop-number-preserved : goal.loop-number-preserved
loop-number-preserved c =
    let k = c.loop-number.number in
    let blanks = c.args.blanks.now in
    let one = there_is blanks k (omega arith) in
    cells_step c.args.definition.now c.args.in_head k c.loop-number.joins c.joins_behind-joins.result one.0 blanks
    c.row_cell-cell.result c.loop-number.cells c.push.new.self one.1 (c.row_cell-cell.ensures one.0 one.1)
    c.joins_behind-joins.ensures c.in_ok-push.ensures ∙ c.loop-number.invariant

pub returns : goal.returns
returns c =
    let last = c.loop-number in
    sym (append-nil last.cells)
    ∙ ap (λ (rest : List RowCell). last.cells ++ rest) (sym (cells_end c.args.definition.now c.args.in_head last.number
    last.joins c.args.blanks.now (omega arith))) ∙ last.invariant
