-- The items that a text means, each by its CP: those of doc_read, with the properties that a place means.
use Rattle.std.specs.Prelude.{◌≡◌, ℕ, ◌+◌, ◌-◌, ◌<◌, ◌≤◌, Bool, true, false, List, [], length, is_some}
use Rattle.std.specs.Prelude.{slice_get, slice_index, Option, Some, None, ⊤}
use Rattle.prop_map.specs.declared.modifiers.Modifier.{Modifier}
use Rattle.piece_table.specs.Piece.{UnitPlace, place_of_cp}
use Rattle.doc_model.specs.declared.item.Item.{Item}
use Rattle.doc_model.specs.declared.item.Mark.{Mark}
use Rattle.doc_model.specs.Entries.{entry_at_cp}
use Rattle.text_codes.specs.Paragraph.{is_paragraph_end}
use Rattle.fib_form.specs.declared.table_parts.TablePart.TheVariants.{PlcfBteChpx, PlcfBtePapx}
use Rattle.fib_form.specs.declared.stories.StoryKind.TheVariants.{Main}
use Rattle.file_rules.specs.Units.{unit_at}
use Rattle.file_rules.specs.Source.{table_part_bytes, story_length}
use Rattle.doc_read.specs.Sections.{section_marks}
use Rattle.doc_read.specs.Marked.{field_mark_bytes, note_kind_entries}
use Rattle.doc_read.specs.Items.{TextParts}
use Rattle.doc_meaning.specs.Places.{MeansCharacter, MeansMark}

-- a mark is exactly where a paragraph ends
abbrev pub MeansMarkAt : Bool → List ℕ → List ℕ → ℕ → Modifier → Option Mark → Type 0
MeansMarkAt true wd bin fc modifier (Some mark) = MeansMark wd bin fc modifier mark.istd mark.pap
MeansMarkAt true wd bin fc modifier None = ⊥
MeansMarkAt false wd bin fc modifier (Some mark) = ⊥
MeansMarkAt false wd bin fc modifier None = ⊤

-- the item of a CP
pub record MeansItem (parts : TextParts) (cp : ℕ) (item : Item) : Type 0 where
  pub place : UnitPlace
  pub here : place_of_cp parts.pieces cp ≡ Some place
  pub unit : item.unit ≡ unit_at parts.source.wd place
  pub characters :
      MeansCharacter parts.source.wd (table_part_bytes parts.source PlcfBteChpx) place.at place.modifier item.chp
  pub section :
      item.sect ≡ entry_at_cp (section_marks parts.lists.sections (story_length parts.source Main) parts.sections) cp
  pub mark :
      MeansMarkAt (is_paragraph_end item.unit (is_some item.sect)) parts.source.wd (table_part_bytes parts.source
      PlcfBtePapx)
      place.at place.modifier item.mark
  pub field : item.fld ≡ entry_at_cp (field_mark_bytes parts.source parts.lists) cp
  pub note : item.note ≡ entry_at_cp (note_kind_entries parts.lists.refs) cp

-- the items of the CPs from one to before another
pub record MeansItems (parts : TextParts) (from to : ℕ) (text : List Item) : Type 0 where
  pub len : length text ≡ to - from
  pub each : (i : ℕ) (item : Item) → slice_get text i ≡ Some item → MeansItem parts (from + i) item

-- so many texts: number k has the items between the CPs k and k + 1 of its story, and is empty where these are missing
pub record MeansTexts (parts : TextParts) (begin : ℕ) (cuts : List ℕ) (count : ℕ) (texts : List (List Item)) :
    Type 0 where
  pub len : length texts ≡ count
  pub there :
      (k : ℕ) (text : List Item) → slice_get texts k ≡ Some text → k + 1 < length cuts →
      MeansItems parts (begin + slice_index cuts k) (begin + slice_index cuts (k + 1)) text
  pub missing : (k : ℕ) (text : List Item) → slice_get texts k ≡ Some text → length cuts ≤ k + 1 → text ≡ []
