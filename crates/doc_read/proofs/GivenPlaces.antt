-- Where the rules on the parts hold the page of each CP is right.
use Rattle.std.specs.Prelude.{slice_index, is_some, ℕ, List}
use Rattle.std.proofs.Common.{◌≡◌, ◌∙◌, ◌<◌, sym, ap, subst, true, Some, arith}
use Rattle.std.proofs.lemmas.Option.{slice_get_within}
use Rattle.std.proofs.lemmas.List.{length-map, length-take}
use Rattle.doc_bits.specs.Rules.{Hold}
use Rattle.prop_map.specs.Settings.{Properties}
use Rattle.fib_form.specs.declared.table_parts.TablePart.TheVariants.{PlcfBteChpx, PlcfBtePapx}
use Rattle.fib_form.specs.declared.stories.StoryKind.TheVariants.{Main}
use Rattle.fkp_pages.specs.declared.kind.PageKind.TheVariants.{Chpx, Papx}
use Rattle.direct_props.specs.PageRules.{IsValidPlace}
use Rattle.piece_table.specs.Piece.{UnitPlace, flat_pieces, place_of_cp}
use Rattle.text_codes.specs.Paragraph.{is_paragraph_end}
use Rattle.doc_model.specs.declared.item.Item.{Item}
use Rattle.doc_model.specs.Entries.{entry_at_cp}
use Rattle.file_rules.specs.Source.{table_part_bytes, story_length}
use Rattle.file_rules.specs.Units.{unit_at}
use Rattle.file_rules.specs.FormatRules.{text_count, judged_units, ends_section, ends_paragraph}
use Rattle.file_rules.specs.PartRules.{PartLists, HasPartLists, part_rules}
use Rattle.file_rules.specs.FileRules.{FileText, doc_source_of}
use Rattle.file_rules.proofs.Public.{right_characters, right_paragraphs}
use Rattle.doc_read.specs.Sections.{section_marks}
use Rattle.doc_read.proofs.MarkListLemmas.{some_section, ends_up}
use Rattle.doc_read.proofs.PlaceLemmas.{read_at_place}
use Rattle.doc_read.proofs.RightLemmas.{paragraph_right, section_ends_there, ends_more}

-- a text of which the rules on the parts hold, and what its parts hold
pub record RightText : Type 0 where
  pub text : FileText
  pub lists : PartLists
  pub hold : Hold (part_rules (doc_source_of text))
  pub has : HasPartLists (doc_source_of text) lists

-- the page of the characters of a CP
pub character_place : (r : RightText) (cp : ℕ) (place : UnitPlace) → cp < text_count (doc_source_of r.text) →
    place_of_cp r.text.pieces cp ≡ Some place →
    IsValidPlace Chpx r.text.wd (table_part_bytes (doc_source_of r.text) PlcfBteChpx) place.at
character_place r cp place below here =
    let source = doc_source_of r.text in
    let right = right_characters source r.lists.sections r.hold.1.0 r.has.has_sections in
    let at = read_at_place (λ (p : UnitPlace). p.at) r.text.pieces cp (text_count source) place here below in
    let inside = slice_get_within (flat_pieces r.text.pieces) cp place here in
    let len = length-take (text_count source) source.text.places in
    let all = length-map (flat_pieces r.text.pieces) (λ (p : UnitPlace). p.at) in
    subst (IsValidPlace Chpx r.text.wd (table_part_bytes source PlcfBteChpx)) at
    (right cp (omega (arith, below, inside, len, all)))

-- the page of the mark of a CP, where an item ends a paragraph that has the unit and the properties of a section of the
-- CP
pub mark_place : (r : RightText) (maps : List Properties) (cp : ℕ) (place : UnitPlace) (item : Item) →
    cp < text_count (doc_source_of r.text) → place_of_cp r.text.pieces cp ≡ Some place →
    item.unit ≡ unit_at r.text.wd place →
    item.sect ≡ entry_at_cp (section_marks r.lists.sections (story_length (doc_source_of r.text) Main) maps) cp →
    is_paragraph_end item.unit (is_some item.sect) ≡ true →
    IsValidPlace Papx r.text.wd (table_part_bytes (doc_source_of r.text) PlcfBtePapx) place.at
mark_place r maps cp place item below here unit sect ends =
    let source = doc_source_of r.text in
    let paragraphs = table_part_bytes source PlcfBtePapx in
    let sections = r.lists.sections in
    let main_len = story_length source Main in
    let right = right_paragraphs source sections r.hold.1.0 r.has.has_sections in
    let at = read_at_place (λ (p : UnitPlace). p.at) r.text.pieces cp (text_count source) place here below in
    let unit_is : slice_index (judged_units source) cp ≡ unit_at r.text.wd place =
    read_at_place (unit_at r.text.wd) r.text.pieces cp (text_count source) place here below in
    let inside = slice_get_within (flat_pieces r.text.pieces) cp place here in
    let len = length-take (text_count source) source.text.units in
    let all = length-map (flat_pieces r.text.pieces) (unit_at r.text.wd) in
    let up = ends_up sections main_len (some_section source sections r.hold.0.0 r.has.has_sections)
    r.has.has_sections.leading.in_order in
    let there : is_some item.sect ≡ true → ends_section sections main_len cp ≡ true = λ some.
    section_ends_there sections main_len maps cp up (ap is_some (sym sect) ∙ some) in
    let same : slice_index (judged_units source) cp ≡ item.unit = unit_is ∙ sym unit in
    let paragraph : ends_paragraph source sections cp ≡ true =
    ends_more (slice_index (judged_units source) cp) (is_some item.sect) (ends_section sections main_len cp) there
    (ap (λ u. is_paragraph_end u (is_some item.sect)) same ∙ ends) in
    subst (IsValidPlace Papx r.text.wd paragraphs) at
    (paragraph_right r.text.wd paragraphs source sections right cp
    (omega (arith, below, inside, len, all)) paragraph)
