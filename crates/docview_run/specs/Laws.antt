-- What the definitions of a run imply.
use Rattle.std.specs.Prelude.{◌≡◌, ◌≢◌, ◌⊎◌, Bool, false, ℕ, List, Option, Some}
use Rattle.doc_bits.specs.Number.{AreBytes}
use Rattle.doc_bits.specs.Rules.{Hold}
use Rattle.doc_outer.specs.Held.{Files, file_at}
use Rattle.doc_model.specs.declared.document.Document.{Document}
use Rattle.doc_read.specs.Holds.{IsAccepted}
use Rattle.file_mends.specs.declared.mends.FileMend.{FileMend}
use Rattle.doc_fit.specs.ReadAs.{IsMendedRead}
use Rattle.doc_fit.specs.Rules.{fit_rules}
use Rattle.property_text.specs.declared.page.PropertyForm.{PropertyForm}
use Rattle.run_stages.specs.Outcomes.{Outcome}
use Rattle.docview_run.specs.declared.view.View.{View}
use Rattle.docview_run.specs.Requests.{Request, page, properties, requested}
use Rattle.docview_run.specs.Pictured.{KeepsFiles}
use Rattle.docview_run.specs.Viewed.{IsViewed}
use Rattle.docview_run.specs.Endings.{IsEnding}

-- a file is read in one way and has one document that is shown, and a strict view shows the same or none
abbrev pub ViewedDocumentIsOne : Type 0
ViewedDocumentIsOne = (strict other : Bool) (file read again : List ℕ) (a b : Document) → AreBytes file →
    IsViewed strict file read a → IsViewed other file again b → (read ≡ again) × (a ≡ b)

-- properties are asked for, of whose text no clause speaks
abbrev pub AsksForProperties : Option Request → Type 0
AsksForProperties request = (form : PropertyForm) × ((name : List ℕ) × (request ≡ Some (properties form name)))

-- where what names hold is known, a run has one outcome, unless the shelf fails, or properties are asked for, or
-- pictures whose files are to be kept
abbrev pub ViewIsOne : Type 0
ViewIsOne = (words : List (List ℕ)) (files : Files) (one other : Outcome) → IsEnding words (Some files) one →
    IsEnding words (Some files) other → one.status ≢ 4 → other.status ≢ 4 →
    ¬ (AsksForProperties (requested words)) → ¬ (KeepsFiles (requested words)) → one ≡ other

-- a file, as it is read, breaks none of the rules that are left
pub record CanLift (file : List ℕ) : Type 0 where
  pub mends : List FileMend
  pub read : List ℕ
  pub read_as : IsMendedRead file mends read
  pub hold : Hold (fit_rules read)

-- the name holds a file that breaks no rule, or, but for a strict view, none of those that are left
pub record CanView (strict : Bool) (files : Files) (name : List ℕ) : Type 0 where
  pub bytes : List ℕ
  pub there : file_at files name ≡ Some bytes
  pub right : IsAccepted bytes ⊎ ((strict ≡ false) × CanLift bytes)

-- such a file is shown, unless the shelf fails
abbrev pub FilesAreShown : Type 0
FilesAreShown = (words : List (List ℕ)) (view : View) (name : List ℕ) (files : Files) (outcome : Outcome) →
    requested words ≡ Some (page view name) → CanView view.strict files name → IsEnding words (Some files) outcome →
    outcome.status ≢ 4 → outcome.status ≡ 0
