-- A text that breaks none of the rules but those on pages can be read, and what its pages are to the rules.
use Rattle.std.proofs.Common.{◌≡◌, ◌∙◌, sym, ap, subst, ℕ, ◌<◌, ◌≤◌, ◌^◌, ◌+◌, List, length, arith}
use Rattle.std.specs.Prelude.{slice_index, is_some}
use Rattle.std.proofs.lemmas.List.{length-map}
use Rattle.prop_map.specs.Settings.{Properties}
use Rattle.fib_form.specs.declared.table_parts.TablePart.TheVariants.{PlcfBteChpx, PlcfBtePapx}
use Rattle.fib_form.specs.declared.stories.StoryKind.TheVariants.{Main}
use Rattle.text_codes.specs.Paragraph.{is_paragraph_end}
use Rattle.doc_bits.specs.Rules.{Hold}
use Rattle.file_rules.specs.Source.{DocSource, table_part_bytes, story_length}
use Rattle.file_rules.specs.FormatRules.{judged_units, judged_places, section_ends, ends_paragraph, rules_of_formats}
use Rattle.file_rules.specs.PartRules.{PartLists, HasPartLists, HoldButFormats}
use Rattle.file_rules.proofs.Public.{formats_hold, bin_tables, right_characters, right_paragraphs}
use Rattle.doc_read.specs.Sections.{AreSectionMaps, section_lasts}
use Rattle.doc_read.specs.Marked.{field_mark_bytes, note_kind_entries}
use Rattle.doc_read.specs.Passing.{AreUp}
use Rattle.doc_read.specs.Reading.{MarkLists, AreMarkListsOf, TextView, IsReadable, HaveValidPages, ends_paragraph_at}
use Rattle.doc_read.specs.Reading.{section_at}
use Rattle.doc_read.proofs.UpLemmas.{IsUpWithin, up_less}
use Rattle.doc_read.proofs.MarkListLemmas.{fields_up, notes_up, some_section, ends_up, length-section_lasts}
use Rattle.doc_read.proofs.RightLemmas.{paragraph_right, paragraphs_right, section_same}

-- what the items of a document are read from
abbrev pub view_of : DocSource → MarkLists → List Properties → TextView
view_of source marks maps = record {
  wd = source.wd;
  characters = table_part_bytes source PlcfBteChpx;
  paragraphs = table_part_bytes source PlcfBtePapx;
  units = judged_units source;
  places = judged_places source;
  marks = marks;
  maps = maps;
}

-- the last CPs of sections ascend, and are beside the properties of each
ends_ready : (source : DocSource) (lists : PartLists) (maps : List Properties) → HoldButFormats source →
    HasPartLists source lists → AreSectionMaps source.wd lists.sections maps →
    IsUpWithin 1 (story_length source Main + 1) (section_ends lists.sections (story_length source Main)) ×
    (length maps ≡ length (section_lasts lists.sections (story_length source Main)))
ends_ready source lists maps rules has are =
    let some = some_section source lists.sections rules.layout.0 has.has_sections in (
      ends_up lists.sections (story_length source Main) some has.has_sections.leading.in_order,
      are.have.len ∙ sym (length-section_lasts lists.sections (story_length source Main) some),
    )

-- a unit that is read ends a paragraph exactly where it ends one of the document
ends_same : (source : DocSource) (lists : PartLists) (marks : MarkLists) (maps : List Properties) (cp : ℕ) →
    HoldButFormats source → HasPartLists source lists → AreSectionMaps source.wd lists.sections maps →
    AreMarkListsOf source lists marks →
    ends_paragraph_at (view_of source marks maps) cp ≡ ends_paragraph source lists.sections cp
ends_same source lists marks maps cp rules has are is =
    let unit = slice_index (judged_units source) cp in
    let ready = ends_ready source lists maps rules has are in
    ap (λ l. is_paragraph_end unit (is_some (section_at l maps cp))) is.sections
    ∙ ap (is_paragraph_end unit)
    (section_same lists.sections (story_length source Main) maps cp ready.0 ready.1)

-- where the rules on pages hold each unit has its pages
pub pages_right : (source : DocSource) (lists : PartLists) (marks : MarkLists) (maps : List Properties) →
    HoldButFormats source → HasPartLists source lists → AreSectionMaps source.wd lists.sections maps →
    AreMarkListsOf source lists marks → length (judged_places source) ≡ length (judged_units source) →
    Hold (rules_of_formats source) → HaveValidPages (view_of source marks maps) 0 (length (judged_units source))
pages_right source lists marks maps rules has are is same holds = record {
  characters = λ cp _ below. right_characters source lists.sections holds has.has_sections cp
      (omega (arith, below, same));
  marks = λ cp _ below ends. paragraph_right source.wd (table_part_bytes source PlcfBtePapx) source lists.sections
      (right_paragraphs source lists.sections holds has.has_sections) cp below
      (sym (ends_same source lists marks maps cp rules has are is) ∙ ends);
}

-- and the other way round
pub pages_hold : (source : DocSource) (lists : PartLists) (marks : MarkLists) (maps : List Properties) →
    HoldButFormats source → HasPartLists source lists → AreSectionMaps source.wd lists.sections maps →
    AreMarkListsOf source lists marks → length (judged_places source) ≡ length (judged_units source) →
    HaveValidPages (view_of source marks maps) 0 (length (judged_units source)) → Hold (rules_of_formats source)
pages_hold source lists marks maps rules has are is same right =
    formats_hold source lists.sections has.has_sections
    (λ k below. right.characters k (omega arith) (omega (arith, below, same)))
    (paragraphs_right source.wd (table_part_bytes source PlcfBtePapx) source lists.sections
    (λ cp below ends. right.marks cp (omega arith) below
    (ends_same source lists marks maps cp rules has are is ∙ ends)))

pub readable_of : (source : DocSource) (lists : PartLists) (marks : MarkLists) (maps : List Properties) →
    HoldButFormats source → HasPartLists source lists → AreSectionMaps source.wd lists.sections maps →
    AreMarkListsOf source lists marks → length source.wd < 2 ^ 32 → length (judged_units source) ≤ 500000 →
    length (judged_places source) ≡ length (judged_units source) → IsReadable (view_of source marks maps)
readable_of source lists marks maps rules has are is small few same =
    let bins = bin_tables source rules.layout.1 in
    let ready = ends_ready source lists maps rules has are in
    record {
      character_bins = bins.0;
      paragraph_bins = bins.1;
      small = small;
      few = few;
      same = same;
      fields = record {
        up = subst AreUp (sym is.fields) (fields_up source lists has);
        len = omega (
          arith,
          ap length is.fields,
          ap length is.bytes,
          length-map (field_mark_bytes source lists)
              (λ entry. entry.0),
          length-map (field_mark_bytes source lists) (λ entry. entry.1),
        );
      };
      notes = record {
        up = subst AreUp (sym is.notes) (notes_up source lists has);
        len = omega (
          arith,
          ap length is.notes,
          ap length is.kinds,
          length-map (note_kind_entries lists.refs)
              (λ entry. entry.0),
          length-map (note_kind_entries lists.refs) (λ entry. entry.1),
        );
      };
      sections = record {
        up = subst AreUp (sym is.sections) (up_less (story_length source Main + 1) _ ready.0);
        len = ready.1 ∙ ap length (sym is.sections);
      };
      formed = are.formed;
    }

-- the same by its lists
pub view_same : (source : DocSource) (marks : MarkLists) (maps : List Properties) (wd characters paragraphs units places
    : List ℕ) →
    wd ≡ source.wd → characters ≡ table_part_bytes source PlcfBteChpx → paragraphs ≡ table_part_bytes source PlcfBtePapx
    →
    units ≡ judged_units source → places ≡ judged_places source
    → record {
      wd = wd;
      characters = characters;
      paragraphs = paragraphs;
      units = units;
      places = places;
      marks = marks;
      maps = maps;
    } ≡ view_of source marks maps
view_same source marks maps wd characters paragraphs units places wd_is characters_are paragraphs_are units_are
    places_are =
    λ i. record {
      wd = wd_is i;
      characters = characters_are i;
      paragraphs = paragraphs_are i;
      units = units_are i;
      places = places_are i;
      marks = marks;
      maps = maps;
    }
