-- What is read from the parts of a file makes its document.
use Rattle.std.proofs.Common.{◌≡◌, sym, subst, ℕ, ◌-◌, List, length, take, arith}
use Rattle.prop_map.specs.Settings.{Properties}
use Rattle.cfb_streams.specs.Contents.{Contents}
use Rattle.doc_model.specs.declared.item.Item.{Item}
use Rattle.doc_model.specs.declared.document.Document.{Document}
use Rattle.fib_form.specs.declared.stories.StoryKind.TheVariants.{Main, Notes, Heads}
use Rattle.fib_form.specs.declared.table_parts.TablePart.TheVariants.{PlcfHdd}
use Rattle.file_rules.specs.Source.{DocSource, table_part_bytes, story_length, story_begin}
use Rattle.file_rules.specs.FormatRules.{text_count}
use Rattle.file_rules.specs.PartRules.{PartLists, HasPartLists}
use Rattle.file_rules.specs.FileRules.{FileText, doc_source_of}
use Rattle.doc_read.specs.Sections.{AreSectionMaps}
use Rattle.doc_read.specs.Items.{TextParts, HoldsItems}
use Rattle.doc_read.specs.Texts.{AreCutsWithin, AreCutFrom}
use Rattle.doc_read.specs.CarriedParts.{HoldsCarried}
use Rattle.doc_read.specs.Holds.{head_texts, IsDocumentFrom}
use Rattle.doc_read.proofs.SliceLemmas.{holds_front, holds_texts, cuts_within, note_cuts_within}

-- the notes are cut within the text
pub notes_within : (source : DocSource) (lists : PartLists) (len : ℕ) → HasPartLists source lists →
    len ≡ text_count source → AreCutsWithin (story_begin source Notes) lists.notes len
notes_within source lists len has e =
    note_cuts_within source (story_begin source Notes) len lists.notes has.has_notes (omega arith)

-- and so are the header texts
pub heads_within : (source : DocSource) (lists : PartLists) (len : ℕ) → HasPartLists source lists →
    len ≡ text_count source → AreCutsWithin (story_begin source Heads) lists.heads len
heads_within source lists len has e =
    cuts_within (table_part_bytes source PlcfHdd) (story_length source Heads) (story_begin source Heads) len lists.heads
    has.has_heads (omega arith)

-- the main text begins the text, and the others are cut out of it
pub document-from : (contents : Contents) (text : FileText) (lists : PartLists) (sections : List Properties)
    (items : List Item) (document : Document) →
    HasPartLists (doc_source_of text) lists → AreSectionMaps text.wd lists.sections sections →
    HoldsItems (record { source = doc_source_of text; pieces = text.pieces; lists = lists; sections = sections }) 0
    (text_count (doc_source_of text)) items →
    document.main ≡ take (story_length (doc_source_of text) Main) items →
    AreCutFrom items (story_begin (doc_source_of text) Notes) lists.notes (length lists.notes - 1) document.notes →
    AreCutFrom items (story_begin (doc_source_of text) Heads) lists.heads (head_texts lists) document.heads →
    document.sheet ≡ lists.sheet → HoldsCarried contents (doc_source_of text) lists.levels document.carried →
    document.bookmarks ≡ lists.bookmarks → IsDocumentFrom contents text lists document
document-from contents text lists sections items document has maps holds main notes heads sheet carried bookmarks =
    let source = doc_source_of text in
    let parts : TextParts = record { source = source; pieces = text.pieces; lists = lists; sections = sections } in
    let len : length items ≡ text_count source = omega (arith, holds.len) in
    record {
      sections = sections;
      has_sections = maps.have;
      document_is = record {
        main =
            subst (HoldsItems parts 0 (story_length source Main)) (sym main)
            (holds_front parts (text_count source) (story_length source Main) items (omega arith) holds);
        notes =
            holds_texts parts (text_count source) (story_begin source Notes) (length lists.notes - 1) lists.notes
            items document.notes holds
            (notes_within source lists (length items) has len) notes;
        heads =
            holds_texts parts (text_count source) (story_begin source Heads) (head_texts lists) lists.heads items
            document.heads holds
            (heads_within source lists (length items) has len) heads;
        sheet = sheet;
        carried = carried;
        bookmarks = bookmarks;
      };
    }
