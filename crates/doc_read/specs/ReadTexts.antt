-- The texts of a document, of one text that was read, and the document of them.
use Rattle.std.specs.Prelude.{◌≡◌, ℕ, ◌-◌, ◌<◌, ◌≤◌, ◌^◌, List, length, take}
use Rattle.doc_model.specs.declared.item.Item.{Item}
use Rattle.doc_model.specs.declared.document.Document.{Document}
use Rattle.fib_form.specs.declared.stories.StoryKind.TheVariants.{Main, Notes, Heads}
use Rattle.fib_form.specs.FibFields.{FibFields, story_start}
use Rattle.fib_form.specs.Stories.{story_number, story_ccp}
use Rattle.doc_columns.specs.Columns.{items_of}
use Rattle.doc_read.specs.Texts.{AreCutsWithin, AreCutFrom}
use Rattle.doc_read.specs.declared.document.StoryCuts.{StoryCuts}
use Rattle.doc_read.specs.declared.document.DocumentParts.{DocumentParts}
use Rattle.doc_read.specs.declared.document.ReadTexts.{ReadTexts}

-- the main text and the cuts are within a text of so many items
pub record AreCutsOf (fib : FibFields) (cuts : StoryCuts) (len : ℕ) : Type 0 where
  pub main_within : story_ccp fib.ccps Main ≤ len
  pub notes_within : AreCutsWithin (story_start fib.ccps (story_number Notes)) cuts.notes len
  pub heads_within : AreCutsWithin (story_start fib.ccps (story_number Heads)) cuts.heads len
  pub few_notes : length cuts.notes < 2 ^ 32
  pub few_heads : cuts.head_count < 2 ^ 32

-- the main text begins the text, and the others are cut out of it
pub record AreCutTexts (fib : FibFields) (cuts : StoryCuts) (items : List Item) (read : ReadTexts) : Type 0 where
  pub main_is : read.main ≡ take (story_ccp fib.ccps Main) items
  pub notes_are :
      AreCutFrom items (story_start fib.ccps (story_number Notes)) cuts.notes (length cuts.notes - 1) read.notes
  pub heads_are : AreCutFrom items (story_start fib.ccps (story_number Heads)) cuts.heads cuts.head_count read.heads

-- the document has the texts that are cut out of the items of its units and columns, and its other parts
pub record IsDocumentOfUnits (fib : FibFields) (units : List ℕ) (parts : DocumentParts) (document : Document) :
    Type 0 where
  pub texts : ReadTexts
  pub texts_are : AreCutTexts fib parts.cuts (items_of units parts.columns.chps parts.columns.attachments) texts
  pub document_is :
      document
      ≡ (record {
        main = texts.main;
        notes = texts.notes;
        heads = texts.heads;
        sheet = parts.sheet;
        carried = parts.carried;
        bookmarks = parts.bookmarks;
      })
