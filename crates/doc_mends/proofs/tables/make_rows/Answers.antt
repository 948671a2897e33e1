use Rattle.std.proofs.Common.{◌≡◌, ◌∙◌, ◌+◌, ◌≤◌, ap, sym, arith, length, take, List}
use Rattle.std.proofs.lemmas.List.Elements.{All-take}
use Rattle.doc_bits.proofs.Public.{All_at}
use Rattle.doc_model.specs.declared.item.Item.{Item}
use Rattle.doc_mends.specs.declared.mends.BrokenRow.{BrokenRow}
use Rattle.doc_mends.specs.PlainRows.{row_plain}
use Rattle.doc_mends.proofs.TableLemmas.{rows_length, rows_more}
use Rattle.doc_mends.proofs.tables.make_rows.Goals as goal

pub make_row-requires : goal.make_row-requires
make_row-requires c =
    let items : List Item = c.args.items.now in
    let rows : List BrokenRow = c.args.rows.now in
    let k = c.loop-k.k in
    let row = c.row_at-row.result in
    let within : row.from + row.len ≤ length items =
    All_at (λ (r : BrokenRow). r.from + r.len ≤ length items) rows k row c.requires c.row_at-row.ensures in
    let len : length c.loop-k.items ≡ length items =
    ap length c.loop-k.invariant
    ∙ rows_length (take k rows) items (All-take (λ (r : BrokenRow). r.from + r.len ≤ length items) k rows
    c.requires) in
    omega (arith, within, len)

pub loop-k-preserved : goal.loop-k-preserved
loop-k-preserved c =
    let items : List Item = c.args.items.now in
    let rows : List BrokenRow = c.args.rows.now in
    let k = c.loop-k.k in
    let row = c.row_at-row.result in
    c.in_ok-make_row.ensures
    ∙ (ap (λ (l : List Item). row_plain l row) c.loop-k.invariant ∙ sym (rows_more rows items k row c.row_at-row.ensures))
