-- What the definitions imply.
use Rattle.std.specs.Prelude.{◌≡◌, ℕ, ◌<◌, List, slice_index}
use Rattle.doc_bits.specs.Rules.{Hold, Breaks, IsLeastOfAll}
use Rattle.doc_bits.specs.Places.{Place, Upto, IsFirstPlace}
use Rattle.doc_model.specs.declared.document.Document.{Document}
use Rattle.doc_model.specs.Formed.{IsFormed}
use Rattle.doc_model.specs.Marks.{HasFormedBookmarks}
use Rattle.file_rules.specs.FileRules.{file_rules}
use Rattle.doc_read.specs.CarriedParts.{AreShortStreams}
use Rattle.doc_read.specs.Holds.{HoldsDocument, all_rules}

-- a file holds at most one document
abbrev pub DocumentIsOne : Type 0
DocumentIsOne = (file : List ℕ) (one other : Document) → HoldsDocument file one → HoldsDocument file other → one ≡ other

-- a file of bytes that breaks none of the rules 1 to 57 holds a document, which is well formed
pub record HoldsFormed (file : List ℕ) : Type 0 where
  pub document : Document
  pub holds : HoldsDocument file document
  pub formed : IsFormed document

abbrev pub FilesHoldDocuments : Type 0
FilesHoldDocuments = (file : List ℕ) → ((i : ℕ) → slice_index file i < 256) → Hold (file_rules file) → HoldsFormed file

-- the first broken rule of a file is the least of all that are broken, at its least place
abbrev pub FirstFaultIsLeast : Type 0
FirstFaultIsLeast =
    (file : List ℕ) (number : ℕ) (place : Place) → IsFirstPlace (all_rules file) number place →
    IsLeastOfAll Upto (Breaks (all_rules file)) number place

-- a document that a file holds has bookmarks that are in order and within its main text, each with a name
abbrev pub HeldBookmarksAreFormed : Type 0
HeldBookmarksAreFormed =
    (file : List ℕ) (document : Document) → HoldsDocument file document → HasFormedBookmarks document

-- a document that a file holds carries streams that are no longer than the longest file
abbrev pub CarriedStreamsAreShort : Type 0
CarriedStreamsAreShort =
    (file : List ℕ) (document : Document) → HoldsDocument file document → AreShortStreams document.carried.streams
