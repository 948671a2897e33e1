-- The laws of full saves.
use Rattle.std.specs.Prelude.{◌≡◌, ◌↔◌, ℕ, List}
use Rattle.doc_bits.specs.Number.{AreBytes}
use Rattle.cfb_layout.specs.Layout.{contents_of}
use Rattle.doc_model.specs.declared.document.Document.{Document}
use Rattle.doc_model.specs.Formed.{IsFormed}
use Rattle.plain_doc.specs.Sound.{IsSound}
use Rattle.full_save.specs.WordDocument.{table_stream}
use Rattle.full_save.specs.Layout.{layout_streams, full_save_image, FitsCompoundFile}
use Rattle.doc_read.specs.Holds.{HoldsDocument, IsAccepted}
use Rattle.save_laws.specs.Laws.{IsSavedIn}
use Rattle.save_laws.specs.FullSaves.{full_saved_text}

-- a well-formed sound document whose full save fits a file
pub record IsSavable (document : Document) : Type 0 where
  pub formed : IsFormed document
  pub sound : IsSound document
  pub fits : FitsCompoundFile document

-- the full save is accepted and holds the document
pub record IsHeldInFull (document : Document) : Type 0 where
  pub accepted : IsAccepted (full_save_image document)
  pub holds : HoldsDocument (full_save_image document) document

abbrev pub FullSavesHold : Type 0
FullSavesHold = (document : Document) → IsSavable document → IsHeldInFull document

-- its contents are the streams of the layout, and its text is the one piece of the layout
abbrev pub FullSavesAreRead : Type 0
FullSavesAreRead =
    (document : Document) → IsSavable document →
    IsSavedIn (full_save_image document) document (full_saved_text document) (table_stream document)
    (contents_of (layout_streams document) document.carried.clsid)

-- two such documents have one full save exactly where they are the same
abbrev pub FullSavesAreCanonical : Type 0
FullSavesAreCanonical =
    (one other : Document) → IsSavable one → IsSavable other →
    (full_save_image one ≡ full_save_image other) ↔ one ≡ other

-- an accepted file of bytes and the document that it holds, whose full save fits a file
pub record IsSavableFile (file : List ℕ) (document : Document) : Type 0 where
  pub bytes : AreBytes file
  pub accepted : IsAccepted file
  pub holds : HoldsDocument file document
  pub fits : FitsCompoundFile document

-- the full save of what its full save holds is the same bytes
abbrev pub FullSavesAreFixed : Type 0
FullSavesAreFixed =
    (file : List ℕ) (document again : Document) → IsSavableFile file document →
    HoldsDocument (full_save_image document) again → full_save_image again ≡ full_save_image document

-- two such files hold one document exactly where their full saves are the same bytes
abbrev pub EqualFilesHaveOneSave : Type 0
EqualFilesHaveOneSave =
    (file other_file : List ℕ) (one other : Document) → IsSavableFile file one → IsSavableFile other_file other →
    one ≡ other ↔ (full_save_image one ≡ full_save_image other)
