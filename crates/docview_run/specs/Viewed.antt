-- The document of a file that is shown, and why there is none.
use Rattle.std.specs.Prelude.{◌≡◌, ◌⊎◌, ℕ, Bool, true, false, List, Option}
use Rattle.doc_bits.specs.Places.{Place, IsFirstPlace}
use Rattle.doc_bits.specs.Rules.{Hold}
use Rattle.doc_model.specs.declared.document.Document.{Document}
use Rattle.doc_read.specs.Holds.{HoldsDocument, IsAccepted, all_rules}
use Rattle.doc_mends.specs.declared.mends.Mend.{Mend}
use Rattle.file_mends.specs.declared.mends.FileMend.{FileMend}
use Rattle.further_notes.specs.declared.stories.NotedStories.{NotedStories}
use Rattle.doc_fit.specs.Rules.{fit_rules}
use Rattle.doc_fit.specs.Noted.{AreNoted, IsFitDocument}
use Rattle.doc_fit.specs.ReadAs.{IsMendedRead}
use Rattle.doc_fit.specs.Refusals.{IsFitRefused, IsRefusalStatus}
use Rattle.run_stages.specs.Judged.{IsRuleRefusal}
use Rattle.run_stages.specs.Outcomes.{Outcome}

-- a file that breaks no rule is read as it is, and has this document
pub record IsHeldIn (file read : List ℕ) (document : Document) : Type 0 where
  pub accepted : IsAccepted file
  pub same : read ≡ file
  pub holds : HoldsDocument file document

-- what is read breaks none of the rules that are left, and has this document, with its endnotes and comments as notes
-- where they can be
pub record IsLiftedFrom (read : List ℕ) (document : Document) : Type 0 where
  pub rules : Hold (fit_rules read)
  pub noted : Option NotedStories
  pub are_noted : AreNoted false read noted
  pub mends : List Mend
  pub document_is : IsFitDocument noted read document mends

-- a file that breaks a rule, and what is read in place of it, with its bytes mended, has this document
pub record IsLiftedOut (file read : List ℕ) (document : Document) : Type 0 where
  pub refused : ¬ (IsAccepted file)
  pub mends : List FileMend
  pub read_as : IsMendedRead file mends read
  pub lifts : IsLiftedFrom read document

-- what is read of a file, and its document; a strict view has only that of a file that breaks no rule
abbrev pub IsViewed : (strict : Bool) → (file read : List ℕ) → Document → Type 0
IsViewed strict file read document =
    IsHeldIn file read document ⊎ ((strict ≡ false) × IsLiftedOut file read document)

-- a file breaks a rule, and what is read in place of it breaks one of those that are left
pub record IsNotLifted (file name : List ℕ) (outcome : Outcome) : Type 0 where
  pub refused : ¬ (IsAccepted file)
  pub mends : List FileMend
  pub read : List ℕ
  pub read_as : IsMendedRead file mends read
  pub ends : IsFitRefused read name outcome

-- why there is none: the first of the rules that are left, or of all rules in a strict view
abbrev pub IsNotViewed : (strict : Bool) → (file name : List ℕ) → Outcome → Type 0
IsNotViewed strict file name outcome =
    ((strict ≡ true) × IsRuleRefusal (all_rules file) name outcome)
    ⊎ ((strict ≡ false) × IsNotLifted file name outcome)

-- the status of what is not opened: that of its first rule, or of want of memory
pub record IsStatusOf (read : List ℕ) (status : ℕ) : Type 0 where
  pub rule : ℕ
  pub place : Place
  pub first : IsFirstPlace (fit_rules read) rule place
  pub is : IsRefusalStatus rule status

abbrev pub IsFaultStatus : (read : List ℕ) → ℕ → Type 0
IsFaultStatus read status = IsStatusOf read status ⊎ (status ≡ 6)
