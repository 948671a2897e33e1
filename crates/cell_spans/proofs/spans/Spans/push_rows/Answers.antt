use Rattle.std.proofs.Common.{◌∙◌, ◌++◌, List, Option, sym, ap, arith, append-nil}
use Rattle.view_places.specs.declared.element.Span.{Span}
use Rattle.doc_bits.proofs.Public.{there_is}
use Rattle.cell_spans.specs.Spans.{before_at}
use Rattle.cell_spans.proofs.WalkLemmas.{table_end, table_step}
use Rattle.cell_spans.proofs.spans.Spans.push_rows.Goals as goal

pub loop-number-preserved : goal.loop-number-preserved
loop-number-preserved c =
    let rows = c.args.rows.now in
    let k = c.loop-number.number in
    let one = there_is rows k (omega arith) in
    table_step c.args.edges.now rows k one.0 c.loop-number.self c.push_row.new.self one.1 c.in_ok-push_row.ensures
    ∙ c.loop-number.invariant

pub returns : goal.returns
returns c =
    let last = c.loop-number in
    sym (append-nil last.self)
    ∙ ap (λ (rest : List (Option Span)). last.self ++ rest) (sym (table_end c.args.edges.now c.args.rows.now last.number
    (before_at c.args.rows.now last.number) (omega arith))) ∙ last.invariant
