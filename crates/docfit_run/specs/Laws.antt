-- What the definitions of a fit imply.
use Rattle.std.specs.Prelude.{◌≡◌, ◌≢◌, ◌⊎◌, ℕ, Bool, List, Option, Some}
use Rattle.doc_bits.specs.Rules.{Hold}
use Rattle.doc_outer.specs.Held.{Files}
use Rattle.doc_model.specs.declared.document.Document.{Document}
use Rattle.full_save.specs.Layout.{full_save_image}
use Rattle.doc_read.specs.Holds.{HoldsDocument, IsAccepted, all_rules}
use Rattle.run_stages.specs.Outcomes.{Outcome, PutFile}
use Rattle.doc_mends.specs.declared.mends.Mend.{Mend}
use Rattle.file_mends.specs.declared.mends.FileMend.{FileMend}
use Rattle.further_notes.specs.declared.stories.NotedStories.{NotedStories}
use Rattle.doc_fit.specs.Noted.{AreNoted, IsFitDocument}
use Rattle.doc_fit.specs.ReadAs.{IsMendedRead}
use Rattle.docfit_run.specs.Fitted.{IsFitted}
use Rattle.docfit_run.specs.Endings.{IsEnding}

-- the bytes are accepted, and hold the mended document of what is read in place of a file, with its endnotes and
-- comments as notes where they can be, unless it is to be plain
pub record IsHeldRead (plain : Bool) (read bytes : List ℕ) : Type 0 where
  pub noted : Option NotedStories
  pub are_noted : AreNoted plain read noted
  pub document : Document
  pub mends : List Mend
  pub document_is : IsFitDocument noted read document mends
  pub accepted : Hold (all_rules bytes)
  pub holds : HoldsDocument bytes document

-- the same of the file
pub record IsHeldFit (plain : Bool) (file bytes : List ℕ) : Type 0 where
  pub mends : List FileMend
  pub read : List ℕ
  pub read_as : IsMendedRead file mends read
  pub held : IsHeldRead plain read bytes

-- what is put under the name is so
abbrev pub FitsAreHeld : Type 0
FitsAreHeld = (plain : Bool) (out file : List ℕ) (outcome : Outcome) (put : PutFile) → IsFitted plain out file outcome →
    outcome.put ≡ Some put → IsHeldFit plain file put.bytes

-- where what names hold is known, a run has one outcome, unless the shelf fails
abbrev pub FitIsOne : Type 0
FitIsOne = (words : List (List ℕ)) (files : Files) (one other : Outcome) → IsEnding words (Some files) one →
    IsEnding words (Some files) other → one.status ≢ 4 → other.status ≢ 4 → one ≡ other

-- how a run ends over a file that is accepted: it is fitted, or its document needs too many sectors, or the shelf, the
-- output or memory failed. It is not refused
abbrev pub IsAcceptedStatus : ℕ → Type 0
IsAcceptedStatus status = (status ≡ 0) ⊎ ((status ≡ 4) ⊎ ((status ≡ 5) ⊎ ((status ≡ 6) ⊎ (status ≡ 9))))

-- where a file is accepted, its fit is the full save of the document that it holds
abbrev pub FitsSaveAccepted : Type 0
FitsSaveAccepted = (plain : Bool) (out file : List ℕ) (outcome : Outcome) (document : Document) (put : PutFile) →
    IsAccepted file → HoldsDocument file document → IsFitted plain out file outcome → outcome.put ≡ Some put →
    put.bytes ≡ full_save_image document

-- the fit of a fit is the same bytes
abbrev pub FitsAreFixed : Type 0
FitsAreFixed = (plain plain_again : Bool) (out file : List ℕ) (outcome : Outcome) (put : PutFile) (other : List ℕ)
    (again : Outcome) (put_again : PutFile) → IsFitted plain out file outcome → outcome.put ≡ Some put →
    IsFitted plain_again other put.bytes again → again.put ≡ Some put_again → put_again.bytes ≡ put.bytes
