use Rattle.std.proofs.Common.{inl, inr, length, arith}
use Rattle.std.proofs.lemmas.Bool.{cases_lt}
use Rattle.std.specs.Prelude.{IsTrue}
use Rattle.doc_bits.specs.declared.places.Where.TheVariants.{Table}
use Rattle.doc_bits.specs.Rules.{LeastOrNone}
use Rattle.fib_form.specs.declared.table_parts.TablePart.TheVariants.{PlcfSed, PlcfHdd}
use Rattle.fib_form.specs.declared.stories.StoryKind.TheVariants.{Main, Heads}
use Rattle.file_rules.specs.Source.{table_part_bytes, part_place, story_length}
use Rattle.fib_form.specs.TableParts.{pair_number}
use Rattle.file_rules.specs.TextCuts.{BreaksCuts}
use Rattle.file_rules.specs.HeadRules.{IsHeadTable, BreaksHeads}
use Rattle.file_rules.proofs.CutLemmas.{cuts_same, whole_heads}
use Rattle.file_rules.proofs.PartLemmas.{length-part-most}
use Rattle.file_rules.proofs.SectionLemmas.{sections_fit}
use Rattle.file_rules.proofs.RefusalLemmas.{refused-rule, holds-rule}
use Rattle.file_rules.proofs.heads.read_heads.Goals as goal

pub is_head_table-formed-requires : goal.is_head_table-formed-requires
is_head_table-formed-requires c =
    let source = c.args.source.now in
    let list = c.args.sections.now in
    let most = length-part-most source.wd source.table (pair_number PlcfSed) in
    elim (cases_lt 0 (length list)) [
      | inl some ↦
          let fit = sections_fit (table_part_bytes source PlcfSed) (story_length source Main) list c.requires some in
          omega (arith, c.len.ensures, c.part-plc.ensures.small)
      | inr none ↦ omega (arith, c.len.ensures)
    ]

pub judged_cuts-requires-clause-whole : goal.judged_cuts-requires-clause-whole
judged_cuts-requires-clause-whole c = λ formed. whole_heads c.part-plc.result.now c.len.result
    (c.is_head_table-formed.ensures.0 formed)

pub returns-in-Some : goal.returns-in-Some
returns-in-Some c =
    let source = c.args.source.now in
    let list = c.args.sections.now in
    let judged : LeastOrNone (BreaksCuts (IsTrue c.is_head_table-formed.result) (table_part_bytes source PlcfHdd)
    (story_length source Heads) (part_place source PlcfHdd)) c.in_ok-judged.judged.fault =
    rw (c.part-plc.ensures.bytes, c.place-at.ensures.place, c.story_len.ensures.count) at c.in_ok-judged.ensures.0 in
    let formed = rw (c.part-plc.ensures.bytes, c.len.ensures) at c.is_head_table-formed.ensures in
    let breaks = cuts_same (IsTrue c.is_head_table-formed.result) (IsHeadTable (length (table_part_bytes source
    PlcfHdd))
    (length list)) (table_part_bytes source PlcfHdd) (story_length source Heads) (part_place source PlcfHdd)
    c.in_ok-judged.judged.fault formed.0 formed.1 judged in
    (list, (c.requires, refused-rule Table 54 (BreaksHeads source list) c.in-Some.offset (rw c.in-Some.is at breaks)))

pub returns : goal.returns
returns c =
    let source = c.args.source.now in
    let list = c.args.sections.now in
    let judged : LeastOrNone (BreaksCuts (IsTrue c.is_head_table-formed.result) (table_part_bytes source PlcfHdd)
    (story_length source Heads) (part_place source PlcfHdd)) c.in_ok-judged.judged.fault =
    rw (c.part-plc.ensures.bytes, c.place-at.ensures.place, c.story_len.ensures.count) at c.in_ok-judged.ensures.0 in
    let formed = rw (c.part-plc.ensures.bytes, c.len.ensures) at c.is_head_table-formed.ensures in
    let breaks = cuts_same (IsTrue c.is_head_table-formed.result) (IsHeadTable (length (table_part_bytes source
    PlcfHdd))
    (length list)) (table_part_bytes source PlcfHdd) (story_length source Heads) (part_place source PlcfHdd)
    c.in_ok-judged.judged.fault formed.0 formed.1 judged in (
      (list, (c.requires, holds-rule Table 54 (BreaksHeads source list) (rw c.in_default.is at breaks))),
      rw (c.part-plc.ensures.bytes, c.story_len.ensures.count) at (c.in_ok-judged.ensures.1 c.in_default.is),
    )
