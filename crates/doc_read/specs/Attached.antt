-- What is read beside the unit of a CP.
use Rattle.std.specs.Prelude.{◌≡◌, ℕ, is_some, slice_index}
use Rattle.prop_map.specs.declared.modifiers.Modifier.{Modifier}
use Rattle.text_codes.specs.Paragraph.{is_paragraph_end}
use Rattle.doc_columns.specs.declared.attached.Attached.{Attached}
use Rattle.doc_columns.specs.Changes.{HasAttachedMaps}
use Rattle.doc_read.specs.Items.{IsDirectMarkAt}
use Rattle.doc_read.specs.Reading.{TextView, field_at, note_at, section_at}

-- what an item of the CP has beside its unit and its properties, in a piece with the modifier
pub record IsAttachedAt (view : TextView) (modifier : Modifier) (cp : ℕ) (attached : Attached) : Type 0 where
  pub sect_is : attached.sect ≡ section_at view.marks.section_cps view.maps cp
  pub mark_is :
      IsDirectMarkAt (is_paragraph_end (slice_index view.units cp) (is_some attached.sect)) view.wd view.paragraphs
      (slice_index view.places cp) modifier attached.mark
  pub fld_is : attached.fld ≡ field_at view.marks cp
  pub note_is : attached.note ≡ note_at view.marks cp
  pub maps : HasAttachedMaps attached
