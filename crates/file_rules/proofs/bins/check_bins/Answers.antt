use Rattle.std.proofs.Common.{inl, inr}
use Rattle.doc_bits.specs.declared.places.Where.TheVariants.{Table}
use Rattle.fib_form.specs.declared.table_parts.TablePart.TheVariants.{PlcfBteChpx, PlcfBtePapx}
use Rattle.file_rules.specs.Source.{part_place, table_part_bytes}
use Rattle.file_rules.specs.BinRules.{BreaksBinTable}
use Rattle.file_rules.proofs.RefusalLemmas.{refused-rule, holds-rule}
use Rattle.file_rules.proofs.bins.check_bins.Goals as goal

pub returns-in-Some-clause-judged : goal.returns-in-Some-clause-judged
returns-in-Some-clause-judged c =
    let source = c.args.source.now in
    let characters = BreaksBinTable (table_part_bytes source PlcfBteChpx) (part_place source PlcfBteChpx) in
    inl (refused-rule Table 37 characters c.in-Some.offset (rw (
      c.part-characters.ensures.bytes,
      c.place.ensures.place,
    ) at c.in-Some.ensures))

pub returns-in-Some-wrong_bin-clause-judged : goal.returns-in-Some-wrong_bin-clause-judged
returns-in-Some-wrong_bin-clause-judged c =
    let source = c.args.source.now in
    let characters = BreaksBinTable (table_part_bytes source PlcfBteChpx) (part_place source PlcfBteChpx) in
    let paragraphs = BreaksBinTable (table_part_bytes source PlcfBtePapx) (part_place source PlcfBtePapx) in
    inr (
      holds-rule Table 37 characters (rw (c.part-characters.ensures.bytes, c.place.ensures.place) at
          c.in_default.ensures),
      refused-rule Table 38 paragraphs c.in-Some-wrong_bin.offset (rw (
        c.part-paragraphs.ensures.bytes,
        c.place-2.ensures.place,
      ) at c.in-Some-wrong_bin.ensures),
    )

pub returns-clause-judged : goal.returns-clause-judged
returns-clause-judged c =
    let source = c.args.source.now in
    let characters = BreaksBinTable (table_part_bytes source PlcfBteChpx) (part_place source PlcfBteChpx) in
    let paragraphs = BreaksBinTable (table_part_bytes source PlcfBtePapx) (part_place source PlcfBtePapx) in (
      holds-rule Table 37 characters (rw (c.part-characters.ensures.bytes, c.place.ensures.place) at
          c.in_default.ensures),
      holds-rule Table 38 paragraphs (rw (c.part-paragraphs.ensures.bytes, c.place-2.ensures.place) at
          c.in_default-wrong_bin.ensures),
    )
