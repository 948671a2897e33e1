use Rattle.std.proofs.Common.{List, length, ap, subst, arith}
use Rattle.std.specs.Prelude.{IfOk}
use Rattle.fib_form.specs.TableEntries.{TableEntry}
use Rattle.full_save.specs.TableStream.{entries_bytes, AreWritten}
use Rattle.full_save.proofs.MadeLemmas.{made_seen}
use Rattle.doc_columns.proofs.Public.{seen_document}
use Rattle.full_save.proofs.made_parts.write_table.Goals as goal

pub table_of-table-requires : goal.table_of-table-requires
table_of-table-requires c =
    let same = ap (λ (parts : List TableEntry). length (entries_bytes parts))
    (made_seen c.args.document.now (seen_document c.document.inside) c.args.text.now c.in_ok-made.made
    c.document.view_is
    c.in_ok-made.ensures) in
    let small = c.requires.small in
    omega (arith, same, small)

pub returns : goal.returns
returns c =
    subst (λ (parts : List TableEntry). IfOk c.table_of-table.result (AreWritten parts))
    (made_seen c.args.document.now (seen_document c.document.inside) c.args.text.now c.in_ok-made.made
    c.document.view_is
    c.in_ok-made.ensures)
    c.table_of-table.ensures
