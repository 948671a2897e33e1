-- What the rules on the bin tables and pages tell whoever reads the properties of units and marks.
use Rattle.std.proofs.Common.{◌+◌, ◌*◌, inl, inr, ℕ, List, length, refl, subst}
use Rattle.std.proofs.lemmas.Bool.{cases_lt, cases_eq}
use Rattle.doc_bits.specs.declared.places.Where.{Where}
use Rattle.doc_bits.specs.declared.places.Where.TheVariants.{Wd, Table}
use Rattle.doc_bits.specs.Plc.{plc_cp}
use Rattle.doc_bits.specs.Rules.{Rules, rule, ◌then◌, given, Hold, Nowhere}
use Rattle.doc_bits.specs.Places.{rules_in}
use Rattle.doc_parts.specs.declared.lists.Sed.{Sed}
use Rattle.doc_parts.specs.Table.{plc_part}
use Rattle.fkp_pages.specs.declared.kind.PageKind.TheVariants.{Chpx, Papx}
use Rattle.fkp_pages.specs.Bin.{IsBinTable, bin_count}
use Rattle.direct_props.specs.PageRules.{page_rules, AreValidPlaces}
use Rattle.direct_props.proofs.Public.{right_where_hold}
use Rattle.fib_form.specs.declared.table_parts.TablePart.TheVariants.{PlcfBteChpx, PlcfBtePapx}
use Rattle.file_rules.specs.Source.{DocSource, table_part_bytes, part_place}
use Rattle.file_rules.specs.SectionRules.{HasSections}
use Rattle.file_rules.specs.BinRules.{IsPlcBte, BreaksBinTable, rules_of_bins}
use Rattle.file_rules.specs.FormatRules.{judged_places, paragraph_end_places, format_rules, rules_of_formats}
use Rattle.file_rules.proofs.OneLemmas.{sections_one}

-- rules that hold in a part hold in the layer
pub hold_out : (place : Where) (rules : Rules ℕ) → Hold (rules_in place rules) → Hold rules
hold_out place (rule number breaks) h = λ p b. h (place, p) (refl, b)
hold_out place (first then next) h = (hold_out place first h.0, hold_out place next h.1)
hold_out place (given is rules) h = (h.0, (h.1.0, hold_out place (rules h.0) h.1.1))

-- a bin table that breaks its rule nowhere is one
pub right_bin : (bytes : List ℕ) (at : ℕ) → Nowhere (BreaksBinTable bytes at) → IsBinTable bytes
right_bin bytes at none =
    let table = plc_part 4 bytes in
    let whole : ¬ ¬ (IsPlcBte table) = λ no. none at (inl (refl, no)) in
    record {
      table = elim (cases_eq (length bytes) (4 + bin_count bytes * 8)) [
        | inl e ↦ e
        | inr differ ↦ absurd (whole (λ is. differ is.0))
      ];
      ascend = λ k below. elim (cases_lt (plc_cp bytes k) (plc_cp bytes (k + 1))) [
        | inl up ↦ up
        | inr flat ↦ absurd (none (at + 4 * (k + 1)) (inr (record {
          entry = k;
          below = below;
          broken = record { here = refl; broken = flat };
        })))
      ];
    }

-- the bin tables are tables
pub bin_tables : (source : DocSource) → Hold (rules_of_bins source) → IsBinTable (table_part_bytes source PlcfBteChpx) ×
    IsBinTable (table_part_bytes source PlcfBtePapx)
bin_tables source h =
    let chpx = table_part_bytes source PlcfBteChpx in
    let papx = table_part_bytes source PlcfBtePapx in
    let first : Nowhere (BreaksBinTable chpx (part_place source PlcfBteChpx)) = λ p b. h.0 (Table, p) (refl, b) in
    let next : Nowhere (BreaksBinTable papx (part_place source PlcfBtePapx)) = λ p b. h.1 (Table, p) (refl, b) in (
      right_bin chpx (part_place source PlcfBteChpx) first,
      right_bin papx (part_place source PlcfBtePapx) next,
    )

-- the pages of the sections that the document has
held_formats : (source : DocSource) (sections : List Sed) → Hold (rules_of_formats source) → HasSections source
    sections → Hold (format_rules source sections)
held_formats source sections h has =
    subst (λ list. Hold (format_rules source list)) (sections_one source h.0 sections h.1.0 has) h.1.1

-- the unit of each CP has its characters' properties
pub right_characters : (source : DocSource) (sections : List Sed) → Hold (rules_of_formats source) →
    HasSections source sections → AreValidPlaces Chpx source.wd (table_part_bytes source PlcfBteChpx) (judged_places
    source)
right_characters source sections h has =
    let wd = source.wd in
    let bin = table_part_bytes source PlcfBteChpx in
    let places = judged_places source in
    right_where_hold Chpx wd bin places (hold_out Wd (page_rules Chpx wd bin places) (held_formats source sections h
    has).0)

-- each unit that ends a paragraph has its paragraph's properties
pub right_paragraphs : (source : DocSource) (sections : List Sed) → Hold (rules_of_formats source) →
    HasSections source sections → AreValidPlaces Papx source.wd (table_part_bytes source PlcfBtePapx)
    (paragraph_end_places
    source sections)
right_paragraphs source sections h has =
    let wd = source.wd in
    let bin = table_part_bytes source PlcfBtePapx in
    let places = paragraph_end_places source sections in
    right_where_hold Papx wd bin places (hold_out Wd (page_rules Papx wd bin places) (held_formats source sections h
    has).1)
