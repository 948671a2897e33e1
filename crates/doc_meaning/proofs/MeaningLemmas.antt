-- What a file holds it means, and it means one document.
use Rattle.std.specs.Prelude.{is_some, slice_index}
use Rattle.std.proofs.Common.{◌≡◌, ◌+◌, ◌-◌, inl, subst, ℕ, List, length, Bool, true, false, Option, Some, None}
use Rattle.prop_map.specs.declared.modifiers.Modifier.{Modifier}
use Rattle.text_codes.specs.Paragraph.{is_paragraph_end}
use Rattle.fib_form.specs.declared.stories.StoryKind.TheVariants.{Main, Notes, Heads}
use Rattle.fib_form.specs.declared.table_parts.TablePart.TheVariants.{PlcfBtePapx}
use Rattle.doc_model.specs.declared.item.Item.{Item}
use Rattle.doc_model.specs.declared.item.Mark.{Mark}
use Rattle.file_rules.specs.Source.{table_part_bytes, story_length, story_begin}
use Rattle.cfb_streams.specs.Contents.{Contents}
use Rattle.cfb_streams.specs.Container.{HasContents}
use Rattle.doc_model.specs.declared.document.Document.{Document}
use Rattle.file_rules.specs.FileRules.{doc_source_of}
use Rattle.file_rules.proofs.Public.{bin_tables}
use Rattle.doc_read.specs.Items.{TextParts, IsDirectMarkAt, IsItemAt, HoldsItems, HoldsTexts}
use Rattle.doc_read.specs.Holds.{FileParts, IsDocumentOf, text_parts, head_texts}
use Rattle.doc_read.proofs.Public.{HaveBins, held_parts, file_parts_one}
use Rattle.doc_meaning.specs.Items.{MeansMarkAt, MeansItem, MeansItems, MeansTexts}
use Rattle.doc_meaning.specs.Meaning.{HeldIsMeant, MeaningIsOne, MeantIsHeld, IsMeantOf, MeansFrom, MeansDocument}
use Rattle.doc_meaning.proofs.OneLemmas.{parts_mean_one}

-- ---- what has a run has no gap

means_mark_at : (ends : Bool) (wd bin : List ℕ) (fc : ℕ) (modifier : Modifier) (mark : Option Mark) →
    IsDirectMarkAt ends wd bin fc modifier mark → MeansMarkAt ends wd bin fc modifier mark
means_mark_at true wd bin fc modifier (Some mark) is = inl is
means_mark_at true wd bin fc modifier None is = is
means_mark_at false wd bin fc modifier (Some mark) is = is
means_mark_at false wd bin fc modifier None is = is

means_item : (parts : TextParts) (cp : ℕ) (item : Item) → IsItemAt parts cp item → MeansItem parts cp item
means_item parts cp item is = record {
  place = is.place;
  here = is.here;
  unit = is.unit;
  characters = inl is.characters;
  section = is.section;
  mark = means_mark_at (is_paragraph_end item.unit (is_some item.sect)) parts.source.wd
      (table_part_bytes parts.source PlcfBtePapx) is.place.at is.place.modifier item.mark is.mark;
  field = is.field;
  note = is.note;
}

means_items : (parts : TextParts) (from to : ℕ) (text : List Item) → HoldsItems parts from to text →
    MeansItems parts from to text
means_items parts from to text holds =
    record { len = holds.len; each = λ i item here. means_item parts (from + i) item (holds.each i item here) }

means_texts : (parts : TextParts) (begin : ℕ) (cuts : List ℕ) (count : ℕ) (texts : List (List Item)) →
    HoldsTexts parts begin cuts count texts → MeansTexts parts begin cuts count texts
means_texts parts begin cuts count texts holds = record {
  len = holds.len;
  there = λ k text here more. means_items parts (begin + slice_index cuts k) (begin + slice_index cuts (k + 1)) text
      (holds.there k text here more);
  missing = holds.missing;
}

-- the document of parts is what they mean
pub document_meant : (parts : FileParts) (document : Document) → IsDocumentOf parts document → IsMeantOf parts document
document_meant parts document is =
    let source = doc_source_of parts.text in
    let of = text_parts parts in
    record {
      main = means_items of 0 (story_length source Main) document.main is.main;
      notes = means_texts of (story_begin source Notes) parts.lists.notes (length parts.lists.notes - 1) document.notes
          is.notes;
      heads = means_texts of (story_begin source Heads) parts.lists.heads (head_texts parts.lists) document.heads
          is.heads;
      sheet = is.sheet;
      carried = is.carried;
      bookmarks = is.bookmarks;
    }

-- ---- files

pub held_is_meant : HeldIsMeant
held_is_meant file document holds =
    record {
      parts = holds.parts;
      has_parts = holds.has_parts;
      document_is = document_meant holds.parts document holds.document_is;
    }

pub meaning_is_one : MeaningIsOne
meaning_is_one file one other a rules b =
    let same : b.parts ≡ a.parts = file_parts_one file b.parts a.parts b.has_parts a.has_parts in
    let bins = bin_tables (doc_source_of a.parts.text) rules in
    let have : HaveBins (doc_source_of a.parts.text) = record { characters = bins.0; paragraphs = bins.1 } in
    parts_mean_one a.parts have one other a.document_is (subst (λ (p : FileParts). IsMeantOf p other) same
    b.document_is)

pub meant_is_held : MeantIsHeld
unfolding held_is_meant
meant_is_held file document other holds means =
    meaning_is_one file document other (held_is_meant file document holds)
    (held_parts file holds.parts holds.rules holds.has_parts).0.1 means

-- what the streams of a file mean it means
pub file_means : (file : List ℕ) (contents : Contents) (document : Document) → HasContents file contents →
    MeansFrom contents document → MeansDocument file document
file_means file contents document has means = record {
  parts = record {
    contents = contents;
    text = means.text;
    lists = means.lists;
    sections = means.document_is.sections;
  };
  has_parts = record {
    has_contents = has;
    has_text = means.has_text;
    has_lists = means.has_lists;
    has_sections = means.document_is.has_sections;
  };
  document_is = means.document_is.document_is;
}
