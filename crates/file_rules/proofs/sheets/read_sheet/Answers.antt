use Rattle.doc_bits.specs.declared.places.Where.TheVariants.{Table}
use Rattle.doc_bits.proofs.Public.{hold_in}
use Rattle.style_sheet.specs.Stsh.{stsh_rules}
use Rattle.fib_form.specs.declared.table_parts.TablePart.TheVariants.{Stshf}
use Rattle.file_rules.specs.Source.{table_part_bytes, part_place}
use Rattle.file_rules.proofs.RefusalLemmas.{refused-sheet}
use Rattle.file_rules.proofs.sheets.read_sheet.Goals as goal

pub returns-in-Ok : goal.returns-in-Ok
returns-in-Ok c =
    let source = c.args.source.now in
    let read = rw (c.part-stsh.ensures.bytes, c.place.ensures.place) at c.in-Ok.ensures in
    (hold_in Table (stsh_rules (table_part_bytes source Stshf) (part_place source Stshf)) read.0, read.1)

pub returns-in-Err : goal.returns-in-Err
returns-in-Err c =
    let source = c.args.source.now in
    let first = rw (c.part-stsh.ensures.bytes, c.place.ensures.place) at c.in-Err.ensures in
    rw c.refused_sheet.ensures (refused-sheet (stsh_rules (table_part_bytes source Stshf) (part_place source Stshf))
    c.in-Err.fault first)
