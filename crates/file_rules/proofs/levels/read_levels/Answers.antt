use Rattle.std.proofs.Common.{◌≡◌, ◌+◌, ◌≤◌, length, refl, sym, ap, ◌∙◌, arith}
use Rattle.std.proofs.lemmas.Bool.{eqb-true, eqb-false}
use Rattle.doc_bits.specs.declared.places.Where.TheVariants.{Table}
use Rattle.doc_bits.specs.Rules.{Hold}
use Rattle.doc_bits.proofs.Public.{hold_in, first_in}
use Rattle.doc_parts.specs.Levels.{level_rules, HaveLength}
use Rattle.fib_form.specs.declared.table_parts.TablePart.TheVariants.{PlfLst}
use Rattle.file_rules.specs.Source.{table_part_bytes, part_place}
use Rattle.file_rules.proofs.ListLemmas.{levels_within, levels_empty}
use Rattle.file_rules.proofs.levels.read_levels.Goals as goal

pub returns-then-is_empty-clause-read : goal.returns-then-is_empty-clause-read
returns-then-is_empty-clause-read c =
    let source = c.args.source.now in
    let at = part_place source PlfLst in
    let lcb = length (table_part_bytes source PlfLst) in
    let none : lcb ≡ 0 = ap length (sym c.part-part.ensures.bytes) ∙ eqb-true (length c.part-part.result.now) 0
    (sym c.if-is_empty.ensures) in
    let w = levels_empty source.table at lcb none in
    (hold_in Table (level_rules source.table at lcb) w.0, record { len = 0; have = w.1.0; bytes_are = w.1.1 })

pub slice_bounds-result-end-in-Ok : goal.slice_bounds-result-end-in-Ok
slice_bounds-result-end-in-Ok c =
    let source = c.args.source.now in
    let at = part_place source PlfLst in
    let lcb = length (table_part_bytes source PlfLst) in
    let holds : Hold (level_rules source.table at lcb) = rw (
      c.table-table.ensures.bytes,
      c.place-at.ensures.place,
      c.part-part.ensures.bytes,
    ) at c.in-Ok.ensures.0 in
    let have : HaveLength source.table at lcb c.in-Ok.len = rw (
      c.table-table.ensures.bytes,
      c.place-at.ensures.place,
      c.part-part.ensures.bytes,
    ) at c.in-Ok.ensures.1 in
    let len : length c.part-part.result.now ≡ lcb = ap length c.part-part.ensures.bytes in
    let size : length c.table-table.result.now ≡ length source.table = ap length c.table-table.ensures.bytes in
    let not_none = eqb-false (length c.part-part.result.now) 0 (sym c.if-is_empty.ensures) in
    let inside : at + lcb ≤ length source.table = (let within = c.part-part.ensures.within (omega arith) in
    omega arith) in
    let end = levels_within source.table at lcb c.in-Ok.len inside holds have in
    let fits : c.place-at.result + length c.part-part.result.now + c.in-Ok.len ≤ length c.table-table.result.now =
    omega (arith, c.place-at.ensures.place) in
    fits

pub returns-in-Ok-clause-read : goal.returns-in-Ok-clause-read
returns-in-Ok-clause-read c =
    let source = c.args.source.now in
    let at = part_place source PlfLst in
    let lcb = length (table_part_bytes source PlfLst) in
    let holds : Hold (level_rules source.table at lcb) = rw (
      c.table-table.ensures.bytes,
      c.place-at.ensures.place,
      c.part-part.ensures.bytes,
    ) at c.in-Ok.ensures.0 in
    let have : HaveLength source.table at lcb c.in-Ok.len = rw (
      c.table-table.ensures.bytes,
      c.place-at.ensures.place,
      c.part-part.ensures.bytes,
    ) at c.in-Ok.ensures.1 in (
      hold_in Table (level_rules source.table at lcb) holds,
      record {
        len = c.in-Ok.len;
        have = have;
        bytes_are = rw (c.table-table.ensures.bytes, c.place-at.ensures.place, c.part-part.ensures.bytes) refl;
      },
    )

pub returns-in-Err-clause-read : goal.returns-in-Err-clause-read
returns-in-Err-clause-read c =
    let source = c.args.source.now in
    let at = part_place source PlfLst in
    let lcb = length (table_part_bytes source PlfLst) in
    first_in Table (level_rules source.table at lcb) 56 c.in-Err.fault.offset (rw (
      c.table-table.ensures.bytes,
      c.place-at.ensures.place,
      c.part-part.ensures.bytes,
    ) at c.in-Err.ensures)
