use Rattle.doc_bits.specs.declared.places.Where.TheVariants.{Table}
use Rattle.doc_bits.specs.Rules.{Hold, given}
use Rattle.doc_bits.specs.Places.{rules_in}
use Rattle.doc_bits.proofs.Public.{hold_in}
use Rattle.doc_parts.specs.Sections.{section_rules}
use Rattle.fib_form.specs.declared.table_parts.TablePart.TheVariants.{PlcfSed}
use Rattle.fib_form.specs.declared.stories.StoryKind.TheVariants.{Main}
use Rattle.file_rules.specs.Source.{table_part_bytes, part_place, story_length}
use Rattle.file_rules.specs.Faults.{part_refusal}
use Rattle.file_rules.specs.SectionRules.{HasSections, sed_rules}
use Rattle.file_rules.proofs.RefusalLemmas.{refused-part, refused-first, refused-next, refused-given}
use Rattle.file_rules.proofs.sections.read_sections.Goals as goal

pub returns-in-Err : goal.returns-in-Err
returns-in-Err c =
    let source = c.args.source.now in
    let rules = section_rules (table_part_bytes source PlcfSed) (part_place source PlcfSed) (story_length source Main)
    in
    let refused = rw (c.part-plc.ensures.bytes, c.place-at.ensures.place, c.story_len.ensures.count) at
    c.in-Err.ensures in
    rw c.refused_part.ensures (refused-first (rules_in Table rules) (given (HasSections source) (sed_rules source))
    (part_refusal c.in-Err.fault) (refused-part rules c.in-Err.fault refused))

pub check_sections-requires : goal.check_sections-requires
check_sections-requires c = rw (c.part-plc.ensures.bytes, c.story_len.ensures.count) at c.in-Ok.ensures.1

pub returns-in-Ok-check_sections : goal.returns-in-Ok-check_sections
returns-in-Ok-check_sections c =
    let source = c.args.source.now in
    let rules = section_rules (table_part_bytes source PlcfSed) (part_place source PlcfSed) (story_length source Main)
    in
    let holds : Hold rules = rw (c.part-plc.ensures.bytes, c.place-at.ensures.place, c.story_len.ensures.count) at
    c.in-Ok.ensures.0 in
    let are : HasSections source c.in-Ok.list = rw (c.part-plc.ensures.bytes, c.story_len.ensures.count) at
    c.in-Ok.ensures.1 in
    ((hold_in Table rules holds, (c.in-Ok.list, (are, c.in-Ok-check_sections.ensures))), are)

pub returns-in-Err-check_sections : goal.returns-in-Err-check_sections
returns-in-Err-check_sections c =
    let source = c.args.source.now in
    let rules = section_rules (table_part_bytes source PlcfSed) (part_place source PlcfSed) (story_length source Main)
    in
    let holds : Hold rules = rw (c.part-plc.ensures.bytes, c.place-at.ensures.place, c.story_len.ensures.count) at
    c.in-Ok.ensures.0 in
    let are : HasSections source c.in-Ok.list = rw (c.part-plc.ensures.bytes, c.story_len.ensures.count) at
    c.in-Ok.ensures.1 in
    refused-next (rules_in Table rules) (given (HasSections source) (sed_rules source)) c.in-Err-check_sections.fault
    (hold_in Table rules holds)
    (refused-given (HasSections source) (sed_rules source) c.in-Ok.list c.in-Err-check_sections.fault are
    c.in-Err-check_sections.ensures)
