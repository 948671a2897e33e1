-- The document of a text that reads the same is what the streams mean.
use Rattle.std.specs.Prelude.{slice_index}
use Rattle.std.proofs.Common.{◌≡◌, ◌∙◌, refl, ◌+◌, ◌-◌, ◌<◌, ◌≤◌, ap, subst, ℕ, List, length, arith}
use Rattle.std.proofs.lemmas.Option.{slice_get_within}
use Rattle.prop_map.specs.Settings.{Properties}
use Rattle.cfb_streams.specs.Contents.{Contents}
use Rattle.fib_form.specs.declared.table_parts.TablePart.TheVariants.{SttbfFfn, Dop, SttbfAssoc, PlfLst, PlfLfo}
use Rattle.fib_form.specs.declared.stories.StoryKind.TheVariants.{Main, Notes, Heads}
use Rattle.doc_model.specs.declared.carried.Carried.{Carried}
use Rattle.doc_model.specs.declared.document.Document.{Document}
use Rattle.doc_model.specs.declared.item.Item.{Item}
use Rattle.file_rules.specs.Source.{story_length, story_begin}
use Rattle.file_rules.specs.FormatRules.{text_count}
use Rattle.file_rules.specs.FileRules.{FileText, HasFileText, doc_source_of}
use Rattle.doc_read.specs.CarriedParts.{HoldsCarried}
use Rattle.doc_read.specs.Items.{HoldsItems, HoldsTexts}
use Rattle.doc_read.specs.Texts.{AreCutsWithin}
use Rattle.doc_read.specs.Holds.{IsDocumentFrom, head_texts}
use Rattle.doc_read.proofs.Public.{notes_within, heads_within, parts_of, RightText}
use Rattle.doc_meaning.specs.Lifted.{ReadsTheSame}
use Rattle.doc_meaning.specs.Items.{MeansItems, MeansTexts}
use Rattle.doc_meaning.specs.Meaning.{IsMeantFrom, MeansFrom}
use Rattle.doc_meaning.proofs.ListLemmas.{lists_same, plain_of}
use Rattle.doc_meaning.proofs.ItemLemmas.{begin_same, item_same, maps_same}

-- a stretch of the three stories
items_same : (old : FileText) (r : RightText) (maps : List Properties) (from to : ℕ) (items : List Item) →
    ReadsTheSame old r.text → from ≤ to → to ≤ text_count (doc_source_of r.text) →
    HoldsItems (parts_of r.text r.lists maps) from to items → MeansItems (parts_of old r.lists maps) from to items
items_same old r maps from to items same order within holds = record {
  len = holds.len;
  each = λ i item here.
      let inside = slice_get_within items i item here in
      let below : from + i < text_count (doc_source_of r.text) = omega (arith, inside, holds.len, order, within) in
      item_same old r maps (from + i) item same below (holds.each i item here);
}

-- texts that are cut out of them
texts_same : (old : FileText) (r : RightText) (maps : List Properties) (begin : ℕ) (cuts : List ℕ) (count : ℕ)
    (texts : List (List Item)) → ReadsTheSame old r.text →
    AreCutsWithin begin cuts (text_count (doc_source_of r.text)) →
    HoldsTexts (parts_of r.text r.lists maps) begin cuts count texts →
    MeansTexts (parts_of old r.lists maps) begin cuts count texts
texts_same old r maps begin cuts count texts same within holds = record {
  len = holds.len;
  there = λ k text here more.
      let order = within.order k more in
      let last = within.within (k + 1) more in
      items_same old r maps (begin + slice_index cuts k) (begin + slice_index cuts (k + 1)) text same
      (omega (arith, order)) last (holds.there k text here more);
  missing = holds.missing;
}

carried_same : (contents : Contents) (old new : FileText) (levels : List ℕ) (carried : Carried) →
    ReadsTheSame old new → HoldsCarried contents (doc_source_of new) levels carried →
    HoldsCarried contents (doc_source_of old) levels carried
carried_same contents old new levels carried same holds = record {
  fonts = holds.fonts ∙ same.parts SttbfFfn (plain_of SttbfFfn refl refl);
  dop = holds.dop ∙ same.parts Dop (plain_of Dop refl refl);
  assoc = holds.assoc ∙ same.parts SttbfAssoc (plain_of SttbfAssoc refl refl);
  lst = holds.lst ∙ same.parts PlfLst (plain_of PlfLst refl refl);
  levels_are = holds.levels_are;
  lfo = holds.lfo ∙ same.parts PlfLfo (plain_of PlfLfo refl refl);
  clsid = holds.clsid;
  lid = holds.lid ∙ ap (λ kept. kept.lid) same.kept;
  lid_fe = holds.lid_fe ∙ ap (λ kept. kept.lid_fe) same.kept;
  flags = holds.flags ∙ ap (λ kept. kept.flags) same.kept;
  streams = holds.streams;
}

document_same : (contents : Contents) (old : FileText) (r : RightText) (document : Document) →
    ReadsTheSame old r.text → IsDocumentFrom contents r.text r.lists document →
    IsMeantFrom contents old r.lists document
document_same contents old r document same from =
    let new = r.text in
    let lists = r.lists in
    let maps = from.sections in
    let parts = parts_of old lists maps in
    let is = from.document_is in
    let source = doc_source_of new in
    let begin = begin_same old new same in
    let whole : text_count source ≡ text_count source = λ i. text_count source in
    let notes = texts_same old r maps (story_begin source Notes) lists.notes (length lists.notes - 1) document.notes
    same (notes_within source lists (text_count source) r.has whole) is.notes in
    let heads = texts_same old r maps (story_begin source Heads) lists.heads (head_texts lists) document.heads
    same (heads_within source lists (text_count source) r.has whole) is.heads in
    let main = items_same old r maps 0 (story_length source Main) document.main same (omega arith) (omega arith)
    is.main in
    record {
      sections = maps;
      has_sections = maps_same old r maps same from.has_sections;
      document_is = record {
        main = subst (λ n. MeansItems parts 0 n document.main) (same.counts Main) main;
        notes = subst (λ n. MeansTexts parts n lists.notes (length lists.notes - 1) document.notes) begin.0 notes;
        heads = subst (λ n. MeansTexts parts n lists.heads (head_texts lists) document.heads) begin.1 heads;
        sheet = is.sheet;
        carried = carried_same contents old new lists.levels document.carried same is.carried;
        bookmarks = is.bookmarks;
      };
    }

-- what a text that reads the same holds the streams mean
pub means_same : (contents : Contents) (old : FileText) (r : RightText) (document : Document) → HasFileText contents old
    →
    ReadsTheSame old r.text → IsDocumentFrom contents r.text r.lists document → MeansFrom contents document
means_same contents old r document has_text same from = record {
  text = old;
  has_text = has_text;
  lists = r.lists;
  has_lists = lists_same old r.text r.lists same r.has;
  document_is = document_same contents old r document same from;
}
