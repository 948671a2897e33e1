-- The items of a text, each by its CP. No piece is changed, no page is gone through.
use Rattle.std.specs.Prelude.{◌≡◌, ℕ, ◌+◌, ◌-◌, ◌<◌, ◌≤◌, Bool, true, false, List, [], length, is_some}
use Rattle.std.specs.Prelude.{slice_get, slice_index, Option, Some, None, ⊤}
use Rattle.prop_map.specs.Settings.{Properties}
use Rattle.prop_map.specs.declared.modifiers.Modifier.{Modifier}
use Rattle.piece_table.specs.Piece.{TextPiece, UnitPlace, place_of_cp}
use Rattle.direct_props.specs.Direct.{IsDirectCharacter, IsDirectMark}
use Rattle.doc_model.specs.declared.item.Item.{Item}
use Rattle.doc_model.specs.declared.item.Mark.{Mark}
use Rattle.fib_form.specs.declared.table_parts.TablePart.TheVariants.{PlcfBteChpx, PlcfBtePapx}
use Rattle.fib_form.specs.declared.stories.StoryKind.TheVariants.{Main}
use Rattle.file_rules.specs.Units.{unit_at}
use Rattle.file_rules.specs.Source.{DocSource, table_part_bytes, story_length}
use Rattle.text_codes.specs.Paragraph.{is_paragraph_end}
use Rattle.file_rules.specs.PartRules.{PartLists}
use Rattle.doc_model.specs.Entries.{entry_at_cp}
use Rattle.doc_read.specs.Sections.{section_marks}
use Rattle.doc_read.specs.Marked.{field_mark_bytes, note_kind_entries}

-- what the items are read from: the streams and the text, the pieces, the lists of the parts, the properties of the
-- sections
pub record TextParts : Type 0 where
  pub source : DocSource
  pub pieces : List TextPiece
  pub lists : PartLists
  pub sections : List Properties

-- a mark is exactly where a paragraph ends, with the style and the properties of its place
abbrev pub IsDirectMarkAt : Bool → List ℕ → List ℕ → ℕ → Modifier → Option Mark → Type 0
IsDirectMarkAt true wd bin fc modifier (Some mark) = IsDirectMark wd bin fc modifier mark.istd mark.pap
IsDirectMarkAt true wd bin fc modifier None = ⊥
IsDirectMarkAt false wd bin fc modifier (Some mark) = ⊥
IsDirectMarkAt false wd bin fc modifier None = ⊤

-- the item of a CP
pub record IsItemAt (parts : TextParts) (cp : ℕ) (item : Item) : Type 0 where
  pub place : UnitPlace
  pub here : place_of_cp parts.pieces cp ≡ Some place
  pub unit : item.unit ≡ unit_at parts.source.wd place
  pub characters :
      IsDirectCharacter parts.source.wd (table_part_bytes parts.source PlcfBteChpx) place.at place.modifier item.chp
  pub section :
      item.sect ≡ entry_at_cp (section_marks parts.lists.sections (story_length parts.source Main) parts.sections) cp
  pub mark :
      IsDirectMarkAt (is_paragraph_end item.unit (is_some item.sect)) parts.source.wd (table_part_bytes parts.source
      PlcfBtePapx)
      place.at place.modifier item.mark
  pub field : item.fld ≡ entry_at_cp (field_mark_bytes parts.source parts.lists) cp
  pub note : item.note ≡ entry_at_cp (note_kind_entries parts.lists.refs) cp

-- the text has the items of the CPs from one to before another
pub record HoldsItems (parts : TextParts) (from to : ℕ) (text : List Item) : Type 0 where
  pub len : length text ≡ to - from
  pub each : (i : ℕ) (item : Item) → slice_get text i ≡ Some item → IsItemAt parts (from + i) item

-- so many texts: number k has the items between the CPs k and k + 1 of its story, and is empty where these are missing
pub record HoldsTexts (parts : TextParts) (begin : ℕ) (cuts : List ℕ) (count : ℕ) (texts : List (List Item)) :
    Type 0 where
  pub len : length texts ≡ count
  pub there :
      (k : ℕ) (text : List Item) → slice_get texts k ≡ Some text → k + 1 < length cuts →
      HoldsItems parts (begin + slice_index cuts k) (begin + slice_index cuts (k + 1)) text
  pub missing : (k : ℕ) (text : List Item) → slice_get texts k ≡ Some text → length cuts ≤ k + 1 → text ≡ []
