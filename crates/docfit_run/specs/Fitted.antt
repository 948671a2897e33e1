-- The fit of a file: the full save of the document that it means, mended, with its endnotes and comments as notes unless
-- it is to be plain, and a line for each of its features that is left out and for each mend. What is read in place of
-- the file may be a copy with mends of its bytes.
use Rattle.std.specs.Prelude.{◌≡◌, ◌⊎◌, ◌+◌, ◌<◌, ℕ, Bool, List, ◌++◌, length, Option, MatchResult}
use Rattle.std.specs.List.{flat_map}
use Rattle.doc_bits.specs.Rules.{Hold}
use Rattle.cfb_layout.specs.Counts.{most_sectors}
use Rattle.doc_model.specs.declared.document.Document.{Document}
use Rattle.plain_doc.specs.Sound.{IsSound}
use Rattle.file_rules.specs.Faults.{IsReadFault}
use Rattle.full_save.specs.Layout.{full_save_image, full_save_sectors}
use Rattle.fast_save.specs.Laws.{IsSavable}
use Rattle.doc_mends.specs.declared.mends.Mend.{Mend}
use Rattle.doc_mends.specs.Lines.{mend_line}
use Rattle.file_mends.specs.declared.mends.FileMend.{FileMend}
use Rattle.file_mends.specs.Lines.{file_mend_line}
use Rattle.file_mends.specs.Mends.{bytes_read}
use Rattle.further_notes.specs.declared.stories.NotedStories.{NotedStories}
use Rattle.doc_fit.specs.declared.file_opening.OpenedFile.{OpenedFile}
use Rattle.loss_report.specs.Features.{Inventory}
use Rattle.doc_outer.specs.Held.{Files}
use Rattle.run_stages.specs.Outcomes.{Outcome, says, puts}
use Rattle.run_stages.specs.Stages.{ReadsNamedFile, BreaksLengthRule}
use Rattle.doc_fit.specs.Rules.{fit_rules}
use Rattle.doc_fit.specs.Refusals.{IsFitRefused}
use Rattle.doc_fit.specs.Losses.{HasInventory}
use Rattle.doc_fit.specs.Noted.{AreNoted, IsFitDocument, AreLinesWith}
use Rattle.doc_fit.specs.ReadAs.{IsMendedRead}
use Rattle.docfit_run.specs.Lines.{fit_line, needs_line}

-- the mends of the bytes of a file, and those of the document that these mean
pub record FitMends : Type 0 where
  pub of_file : List FileMend
  pub of_document : List Mend

-- how many there are, and the line of each
abbrev pub mend_count : FitMends → ℕ
mend_count mends = length mends.of_file + length mends.of_document

abbrev pub mend_lines : FitMends → List ℕ
mend_lines mends = flat_map file_mend_line mends.of_file ++ flat_map mend_line mends.of_document

-- what is printed of a file that was made: how many bytes it has, how much is left out and how much mended, and the
-- line of each
abbrev pub fit_report : ℕ → List (List ℕ) → FitMends → List ℕ
fit_report bytes lines mends =
    fit_line bytes (length lines) (mend_count mends) ++ (flat_map (λ line. line) lines ++ mend_lines mends)

-- the document is put as its full save, and each feature that is left out and each mend is printed
pub record IsFitSaved (out : List ℕ) (document : Document) (lines : List (List ℕ)) (mends : FitMends) (outcome :
    Outcome) :
    Type 0 where
  pub savable : IsSavable document
  pub ends :
      outcome ≡ puts (fit_report (length (full_save_image document)) lines mends) out (full_save_image document)

-- it needs more sectors than a file has
pub record NeedsTooMany (document : Document) (outcome : Outcome) : Type 0 where
  pub over : most_sectors < full_save_sectors document
  pub ends : outcome ≡ says 9 (needs_line (full_save_sectors document))

abbrev pub IsSaved : List ℕ → Document → List (List ℕ) → FitMends → Outcome → Type 0
IsSaved out document lines mends outcome = IsFitSaved out document lines mends outcome ⊎ NeedsTooMany document outcome

-- a file was opened with a sound document, or refused
abbrev pub CanEnd : List ℕ → OpenedFile → Type 0
CanEnd file found =
    MatchResult found.opened (λ opened. IsSound opened.lifted.document)
    (IsReadFault (fit_rules (bytes_read file found.mended)))

-- and is saved, or its first broken rule named
abbrev pub EndsOpened : (name out file : List ℕ) → OpenedFile → Outcome → Type 0
EndsOpened name out file found outcome =
    MatchResult found.opened
    (λ opened. IsSaved out opened.lifted.document opened.losses
    (record { of_file = found.mended.mends; of_document = opened.mends.items }) outcome)
    (λ fault. IsFitRefused (bytes_read file found.mended) name outcome)

-- what is read in place of a file is fitted under a name, with these mends of its bytes
pub record IsReadFitted (plain : Bool) (out read : List ℕ) (file_mends : List FileMend) (outcome : Outcome) : Type 0
  where
    pub noted : Option NotedStories
    pub are_noted : AreNoted plain read noted
    pub document : Document
    pub mends : List Mend
    pub document_is : IsFitDocument noted read document mends
    pub inventory : Inventory
    pub has : HasInventory read inventory
    pub lines : List (List ℕ)
    pub lines_are : outcome.status ≡ 0 → AreLinesWith noted has.text inventory lines
    pub saved : IsSaved out document lines (record { of_file = file_mends; of_document = mends }) outcome

-- the file is fitted under a name
pub record IsFitted (plain : Bool) (out file : List ℕ) (outcome : Outcome) : Type 0 where
  pub mends : List FileMend
  pub read : List ℕ
  pub read_as : IsMendedRead file mends read
  pub fitted : IsReadFitted plain out read mends outcome

-- the first of the rules that are left is broken, or what is read is fitted
abbrev pub JudgesRead : Bool → (name out read : List ℕ) → List FileMend → Outcome → Type 0
JudgesRead plain name out read mends outcome =
    IsFitRefused read name outcome ⊎ (Hold (fit_rules read) × IsReadFitted plain out read mends outcome)

pub record JudgesFit (plain : Bool) (name out file : List ℕ) (outcome : Outcome) : Type 0 where
  pub mends : List FileMend
  pub read : List ℕ
  pub read_as : IsMendedRead file mends read
  pub judged : JudgesRead plain name out read mends outcome

-- a name is read whole, and its file checked so
abbrev pub FitsFile : Bool → (name out : List ℕ) → Option Files → Outcome → Type 0
FitsFile plain name out held = ReadsNamedFile name held (BreaksLengthRule name) (JudgesFit plain name out)
