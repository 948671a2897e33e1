-- The laws of saves.
use Rattle.std.specs.Prelude.{◌≡◌, ℕ, List, Bool}
use Rattle.doc_bits.specs.Number.{AreBytes}
use Rattle.prop_map.specs.Settings.{Properties}
use Rattle.cfb_streams.specs.Contents.{Contents}
use Rattle.doc_model.specs.declared.document.Document.{Document}
use Rattle.doc_model.specs.Collected.{sections_of}
use Rattle.doc_model.specs.Formed.{IsFormed}
use Rattle.plain_doc.specs.Sound.{IsSound}
use Rattle.doc_read.specs.Holds.{HoldsDocument, IsAccepted}
use Rattle.save_laws.specs.Places.{PagedStream, GivenUnit, GivesAt}
use Rattle.save_laws.specs.Plans.{Plan, IsPlannedUnit, IsWrittenPlan}
use Rattle.save_laws.specs.KeptPages.{KeepsBytes, KeepsPages}
use Rattle.save_laws.specs.FastSaves.{IsFastSaved}
use Rattle.save_laws.specs.GivenFiles.{StandsTogether}
use Rattle.save_laws.specs.Saves.{SavedText, HasPropertiesAt, AreSavedSections, IsSavedAs, IsHeldBy, IsFileOfContents}
use Rattle.save_laws.specs.Saves.{file_text}

-- a well-formed sound document that is saved is held by the contents, which break none of the rules 15 to 57
abbrev pub SavedDocumentsAreHeld : Type 0
SavedDocumentsAreHeld =
    (document : Document) (saved : SavedText) (table : List ℕ) (contents : Contents) → IsFormed document →
    IsSound document → IsSavedAs document saved table contents → IsHeldBy document (file_text saved table) contents

-- a file with these contents is accepted and holds the document, by the text that was saved
pub record IsSavedIn (file : List ℕ) (document : Document) (saved : SavedText) (table : List ℕ) (contents : Contents) :
    Type 0 where
  pub accepted : IsAccepted file
  pub holds : HoldsDocument file document
  pub contents_are : holds.parts.contents ≡ contents
  pub text_is : holds.parts.text ≡ file_text saved table

abbrev pub SavedFilesHold : Type 0
SavedFilesHold =
    (file : List ℕ) (document : Document) (saved : SavedText) (table : List ℕ) (contents : Contents) →
    IsFormed document → IsSound document → IsSavedAs document saved table contents → IsFileOfContents file contents →
    IsSavedIn file document saved table contents

-- added text whose units and pages are in the stream is given there as it was planned
abbrev pub PlansGive : Type 0
PlansGive =
    (plan : Plan) (written : PagedStream) (at : ℕ) (wide : Bool) (given : GivenUnit) → IsWrittenPlan plan written →
    IsPlannedUnit plan at wide given → GivesAt written at wide given

-- what a session writes behind an old stream is a save of its document
abbrev pub FastSavesAreSaves : Type 0
FastSavesAreSaves =
    (document : Document) (old : PagedStream) (plan : Plan) (saved : SavedText) (table : List ℕ)
    (contents : Contents) → IsFastSaved document old plan saved table contents →
    IsSavedAs document saved table contents

-- the properties of a section that are in a stream are in one that keeps its bytes
abbrev pub KeptPropertiesAreThere : Type 0
KeptPropertiesAreThere =
    (old new : List ℕ) (fc : ℕ) (properties : Properties) → KeepsBytes old new → HasPropertiesAt old fc properties →
    HasPropertiesAt new fc properties

-- what a stream gives at a place one gives that keeps its pages
abbrev pub KeptPlacesGive : Type 0
KeptPlacesGive =
    (old new : PagedStream) (before at : ℕ) (wide : Bool) (given : GivenUnit) → KeepsPages old new before →
    GivesAt old at wide given → GivesAt new at wide given

-- the places of the text of a file that holds a document are together with the document's slots
abbrev pub GivenFilesStand : Type 0
GivenFilesStand =
    (file : List ℕ) (document : Document) → AreBytes file → (held : HoldsDocument file document) →
    StandsTogether held.parts.text document

-- and its sections are saved sections of the document
abbrev pub GivenSectionsAreSaved : Type 0
GivenSectionsAreSaved =
    (file : List ℕ) (document : Document) → AreBytes file → (held : HoldsDocument file document) →
    AreSavedSections (sections_of document.main) held.parts.text.wd held.parts.lists.sections
