-- The sections and the bin tables of a saved document break none of the rules 33 to 38.
use Rattle.std.specs.Prelude.{is_some, slice_get, slice_index, IsSome}
use Rattle.std.proofs.Common.{zero, Option, ◌≡◌, ◌∙◌, refl, sym, ap, subst, ℕ, suc, ◌+◌, ◌-◌, ◌*◌, ◌<◌, List, length}
use Rattle.std.proofs.Common.{map, Some, arith, inl, inr}
use Rattle.std.proofs.lemmas.List.{length-map}
use Rattle.doc_bits.specs.declared.places.Where.TheVariants.{Wd, Table, Main as MainText}
use Rattle.doc_bits.specs.Rules.{Hold, Nowhere, rule}
use Rattle.doc_bits.proofs.Public.{hold_in, there_is}
use Rattle.sprm_table.proofs.Public.{accepted_no_fault}
use Rattle.prop_map.specs.Settings.{Properties}
use Rattle.prop_map.specs.Formed.{section_groups}
use Rattle.fib_form.specs.declared.table_parts.TablePart.TheVariants.{PlcfSed, PlcfBteChpx, PlcfBtePapx}
use Rattle.fib_form.specs.declared.stories.StoryKind.TheVariants.{Main}
use Rattle.doc_parts.specs.declared.lists.Sed.{Sed}
use Rattle.doc_parts.specs.Sections.{section_rules, place_of_fc_sepx}
use Rattle.text_codes.specs.Paragraph.{section_mark}
use Rattle.doc_model.specs.declared.item.Item.{Item}
use Rattle.doc_model.specs.Collected.{sections_of}
use Rattle.file_rules.specs.Source.{table_part_bytes, part_place, story_length, story_units}
use Rattle.file_rules.specs.SectionRules.{section_begin, section_fc, sepx_list, BeginsElsewhere, LacksSepx}
use Rattle.file_rules.specs.SectionRules.{HasSepxFault, BreaksSectionMarks, BreaksSepxs, BreaksSepxLists}
use Rattle.file_rules.specs.SectionRules.{rules_of_sections}
use Rattle.file_rules.specs.BinRules.{BreaksBinTable, rules_of_bins}
use Rattle.file_rules.proofs.Public.{no_row, index_of_get}
use Rattle.save_laws.specs.Saves.{HasPropertiesAt, HasRanges}
use Rattle.doc_parts.proofs.Public.{Rise, rise_within, rise_step}
use Rattle.doc_model.proofs.Public.{collected_rise, collected_from, next_start}
use Rattle.save_laws.proofs.SavedLemmas.{Save, the_source, main_unit, part_is}
use Rattle.save_laws.proofs.PartsHeld.{sections_part}

-- the properties of a section are where its Sed says
pub record HasSepxOf (s : Save) (k : ℕ) : Type 0 where
  pub section : ℕ × Properties
  pub here : slice_get (sections_of s.document.main) k ≡ Some section
  pub has : HasPropertiesAt s.saved.stream.wd (section_fc s.saved.seds k) section.1

pub sepx_of : (s : Save) (k : ℕ) → k < length s.saved.seds → HasSepxOf s k
sepx_of s k below =
    let seds = s.saved.seds in
    let len = s.is.sections.properties.len in
    let sed = there_is seds k below in
    let section = there_is (sections_of s.document.main) k (omega (arith, below, len)) in
    let fc : section_fc seds k ≡ sed.0.sepx = index_of_get (λ (x : Sed). x.sepx) seds k sed.0 sed.1 in
    record {
      section = section.0;
      here = section.1;
      has =
          subst (λ n. HasPropertiesAt s.saved.stream.wd n section.0.1) (sym fc)
          (s.is.sections.properties.each k sed.0 section.0 sed.1 section.1);
    }

-- before a later section is a section mark
mark_before : (s : Save) (j : ℕ) → suc j < length s.saved.seds →
    slice_index (story_units (the_source s) Main) (section_begin s.saved.seds (suc j) - 1) ≡ section_mark
mark_before s j below =
    let main = s.document.main in
    let sect : Item → Option Properties = λ item. item.sect in
    let sections = sections_of main in
    let cps : List ℕ = map (λ (x : ℕ × Properties). x.0) sections in
    let len : length s.saved.seds ≡ length sections = s.is.sections.properties.len in
    let one = there_is sections j (omega (arith, below, len)) in
    let begin : section_begin s.saved.seds (suc j) ≡ one.0.0 + 1 =
    ap (λ l. slice_index l (suc j)) s.is.sections.starts
    ∙ next_start 0 sections j one.0 one.1 (omega (arith, below, len)) in
    let from = collected_from sect 0 main j one.0 one.1 in
    let rise : Rise 0 (length main) cps = collected_rise sect 0 (length main) main (omega arith) in
    let many : length cps ≡ length sections = length-map sections (λ (x : ℕ × Properties). x.0) in
    let step = rise_step 0 (length main) cps rise j (suc j) (omega arith) (omega (arith, below, len, many)) in
    let last = (rise_within 0 (length main) cps rise (suc j) (omega (arith, below, len, many))).1 in
    let here : slice_index cps j ≡ one.0.0 = index_of_get (λ (x : ℕ × Properties). x.0) sections j one.0 one.1 in
    let placed = (s.right.texts MainText main refl).placed from.index from.item from.here in
    let some : IsSome from.item.sect = ap is_some from.has in
    let at : section_begin s.saved.seds (suc j) - 1 ≡ from.index = omega (arith, begin, from.at) in
    elim (placed.section.alone some).1 [
      | inl end ↦ absurd (omega (arith, end, step, last, here, from.at))
      | inr unit ↦
          ap (slice_index (story_units (the_source s) Main)) at ∙ (main_unit s from.index from.item from.here ∙ unit)
    ]

none_elsewhere : (s : Save) (k : ℕ) → k < length s.saved.seds →
    ¬ (BeginsElsewhere (story_units (the_source s) Main) s.saved.seds k)
none_elsewhere s zero below begins = let later = begins.later in omega (arith, later)
none_elsewhere s (suc j) below begins = begins.other (mark_before s j below)

none_lacks : (s : Save) (k : ℕ) → k < length s.saved.seds →
    ¬ (LacksSepx s.saved.stream.wd (section_fc s.saved.seds k))
none_lacks s k below lacks = lacks.missing ((sepx_of s k below).has.there lacks.properties)

none_faulty : (s : Save) (k place : ℕ) → k < length s.saved.seds →
    ¬ (HasSepxFault s.saved.stream.wd (section_fc s.saved.seds k) place)
none_faulty s k place below fault =
    let fc = section_fc s.saved.seds k in
    accepted_no_fault (sepx_list s.saved.stream.wd fc) section_groups fault.fault.offset
    ((sepx_of s k below).has.accepted fault.properties) fault.fault.broken

pub sections_hold : (s : Save) → Hold (rules_of_sections (the_source s))
sections_hold s =
    let source = the_source s in
    let seds = s.saved.seds in
    let at = part_place source PlcfSed in
    let held = sections_part s in
    let units = story_units source Main in
    let marks : Nowhere (BreaksSectionMarks units seds at) =
    no_row (λ k. at + 4 * k) (BeginsElsewhere units seds) (length seds) (none_elsewhere s) in
    let sepxs : Nowhere (BreaksSepxs source.wd seds at) =
    no_row (place_of_fc_sepx at (length seds)) (λ k. LacksSepx source.wd (section_fc seds k))
    (length seds) (none_lacks s) in
    let lists : Nowhere (BreaksSepxLists source.wd seds) = λ place w. none_faulty s w.entry place w.below w.broken in (
      hold_in Table (section_rules (table_part_bytes source PlcfSed) at (story_length source Main)) (held.rules at),
      (
        seds,
        (
          held.has,
          (
            hold_in Table (rule 34 (BreaksSectionMarks units seds at)) marks,
            (
              hold_in Table (rule 35 (BreaksSepxs source.wd seds at)) sepxs,
              hold_in Wd (rule 36 (BreaksSepxLists source.wd seds)) lists,
            ),
          ),
        ),
      ),
    )

-- ---- bin tables

bin_holds : (bin : List ℕ) (at : ℕ) → HasRanges bin → Nowhere (BreaksBinTable bin at)
bin_holds bin at has place w = elim w [
  | inl wrong ↦ wrong.1 (has.table.table, has.some)
  | inr row ↦ let up = has.table.ascend row.entry row.below in let flat = row.broken.broken in omega (arith, up, flat)
]

pub characters_part : (s : Save) → table_part_bytes (the_source s) PlcfBteChpx ≡ s.saved.stream.characters
characters_part s = part_is s 5 PlcfBteChpx s.saved.stream.characters refl

pub paragraphs_part : (s : Save) → table_part_bytes (the_source s) PlcfBtePapx ≡ s.saved.stream.paragraphs
paragraphs_part s = part_is s 6 PlcfBtePapx s.saved.stream.paragraphs refl

pub bins_hold : (s : Save) → Hold (rules_of_bins (the_source s))
bins_hold s =
    let source = the_source s in
    let characters = table_part_bytes source PlcfBteChpx in
    let paragraphs = table_part_bytes source PlcfBtePapx in
    let first : HasRanges characters = subst HasRanges (sym (characters_part s)) s.is.characters in
    let next : HasRanges paragraphs = subst HasRanges (sym (paragraphs_part s)) s.is.paragraphs in (
      hold_in Table (rule 37 (BreaksBinTable characters (part_place source PlcfBteChpx)))
          (bin_holds characters (part_place source PlcfBteChpx) first),
      hold_in Table (rule 38 (BreaksBinTable paragraphs (part_place source PlcfBtePapx)))
          (bin_holds paragraphs (part_place source PlcfBtePapx) next),
    )
