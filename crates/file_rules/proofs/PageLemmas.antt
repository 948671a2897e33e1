-- The rules on the pages are before those of the parts behind, and hold where each place is right.
use Rattle.std.proofs.Common.{List}
use Rattle.doc_bits.specs.declared.places.Where.TheVariants.{Wd}
use Rattle.doc_bits.specs.Rules.{Hold, ◌then◌}
use Rattle.doc_bits.proofs.Public.{hold_in}
use Rattle.doc_parts.specs.declared.lists.Sed.{Sed}
use Rattle.fkp_pages.specs.declared.kind.PageKind.TheVariants.{Chpx, Papx}
use Rattle.direct_props.specs.PageRules.{page_rules, AreValidPlaces}
use Rattle.direct_props.proofs.Public.{right_places_hold}
use Rattle.fib_form.specs.declared.table_parts.TablePart.TheVariants.{PlcfBteChpx, PlcfBtePapx}
use Rattle.file_rules.specs.declared.fault.ReadFault.{ReadFault}
use Rattle.file_rules.specs.Faults.{IsReadFault}
use Rattle.file_rules.specs.Source.{DocSource, table_part_bytes}
use Rattle.file_rules.specs.SectionRules.{HasSections}
use Rattle.file_rules.specs.FormatRules.{judged_places, paragraph_end_places, rules_of_formats}
use Rattle.file_rules.specs.PartRules.{layout_rules, rest_rules, part_rules, HoldButFormats}
use Rattle.file_rules.proofs.RefusalLemmas.{refused-first, refused-next}

-- all rules from 33 on
pub all_hold : (source : DocSource) → HoldButFormats source → Hold (rules_of_formats source) → Hold (part_rules source)
all_hold source but formats = (but.layout, (formats, but.rest))

-- the pages are refused
pub formats_refused : (source : DocSource) (fault : ReadFault) → Hold (layout_rules source) →
    IsReadFault (rules_of_formats source) fault → IsReadFault (part_rules source) fault
formats_refused source fault layout refused =
    refused-next (layout_rules source) (rules_of_formats source then rest_rules source) fault layout
    (refused-first (rules_of_formats source) (rest_rules source) fault refused)

-- a part behind them is refused
pub rest_refused : (source : DocSource) (fault : ReadFault) → Hold (layout_rules source) →
    Hold (rules_of_formats source) → IsReadFault (rest_rules source) fault → IsReadFault (part_rules source) fault
rest_refused source fault layout formats refused =
    refused-next (layout_rules source) (rules_of_formats source then rest_rules source) fault layout
    (refused-next (rules_of_formats source) (rest_rules source) fault formats refused)

-- where each unit and each end of a paragraph is right the rules on pages hold
pub formats_hold : (source : DocSource) (sections : List Sed) → HasSections source sections →
    AreValidPlaces Chpx source.wd (table_part_bytes source PlcfBteChpx) (judged_places source) →
    AreValidPlaces Papx source.wd (table_part_bytes source PlcfBtePapx) (paragraph_end_places source sections) →
    Hold (rules_of_formats source)
formats_hold source sections has characters marks =
    let wd = source.wd in
    let chpx = table_part_bytes source PlcfBteChpx in
    let papx = table_part_bytes source PlcfBtePapx in
    let all = judged_places source in
    let ends = paragraph_end_places source sections in (
      sections,
      (
        has,
        (
          hold_in Wd (page_rules Chpx wd chpx all) (right_places_hold Chpx wd chpx all characters),
          hold_in Wd (page_rules Papx wd papx ends) (right_places_hold Papx wd papx ends marks),
        ),
      ),
    )
