-- What is read in place of a file: the file with its last sector filled, where it is cut, with changes of tab stops that
-- have the code that docbin reads, and with the parts and the slots of the style sheet mended that break their own rules.
use Rattle.std.specs.Prelude.{◌≡◌, ◌⊎◌, ℕ, Bool, zero, suc, List, [], ◌∷◌, ◌++◌, MatchResult}
use Rattle.doc_bits.specs.Places.{Place, IsFirstPlace}
use Rattle.doc_read.specs.Holds.{IsAccepted}
use Rattle.file_rules.specs.Faults.{IsReadFault}
use Rattle.file_mends.specs.declared.mends.FileMend.{FileMend}
use Rattle.file_mends.specs.Sectors.{FillsSector}
use Rattle.file_mends.specs.Stops.{ReadsStops, HasNoStops}
use Rattle.file_mends.specs.Mends.{FileCopy, MendsRule, bytes_read}
use Rattle.doc_fit.specs.declared.file_opening.OpenedFile.{OpenedFile}
use Rattle.doc_fit.specs.Noted.{IsOpenedFit}
use Rattle.doc_fit.specs.Rules.{fit_rules}

-- its changes of tab stops that delete none are read, where it has some; a file that is accepted is read as it is
abbrev pub GivesStops : (file whole : List ℕ) → List FileMend → List ℕ → Type 0
GivesStops file whole mends given =
    ((¬ IsAccepted file) × ((mend : FileMend) × (ReadsStops whole mend given × (mends ≡ mend ∷ []))))
    ⊎ ((IsAccepted file ⊎ HasNoStops whole) × ((mends ≡ []) × (given ≡ whole)))

-- the file with its last sector filled and its stops read
pub record IsGiven (file : List ℕ) (mends : List FileMend) (given : List ℕ) : Type 0 where
  pub whole : List ℕ
  pub sector : List FileMend
  pub fills : FillsSector file sector whole
  pub stops : List FileMend
  pub reads : GivesStops file whole stops given
  pub mends_are : mends ≡ sector ++ stops

-- the first broken rule of a file is mended in another one
pub record MendsFirst (file : List ℕ) (mend : FileMend) (mended : List ℕ) : Type 0 where
  pub rule : ℕ
  pub place : Place
  pub first : IsFirstPlace (fit_rules file) rule place
  pub mends : MendsRule file rule place.1 mend mended

-- there is none, or it is none that is mended
abbrev pub HasNoMend : List ℕ → Type 0
HasNoMend file = (mend : FileMend) (mended : List ℕ) → ¬ MendsFirst file mend mended

-- each of these mends is that of the first broken rule of what those before it made; what they all make has none that
-- is mended, or there are as many as there may be
abbrev pub MendsInTurn : ℕ → List ℕ → List FileMend → List ℕ → Type 0
MendsInTurn most file [] read = (read ≡ file) × ((most ≡ 0) ⊎ HasNoMend file)
MendsInTurn zero file (mend ∷ mends) read = ⊥
MendsInTurn (suc more) file (mend ∷ mends) read =
    (mended : List ℕ) × (MendsFirst file mend mended × MendsInTurn more mended mends read)

-- how many mends there are at most: six parts that a document goes without, and ten slots of the style sheet
abbrev pub most_mends : ℕ
most_mends = 16

-- a file that is accepted is read as it is, and so is one whose first broken rule is none that is mended
abbrev pub MendsRules : (file whole : List ℕ) → List FileMend → List ℕ → Type 0
MendsRules file whole mends read =
    ((IsAccepted file ⊎ HasNoMend whole) × ((mends ≡ []) × (read ≡ whole)))
    ⊎ ((¬ IsAccepted file) × MendsInTurn most_mends whole mends read)

-- the mends of a file, and what is read in place of it
pub record IsMendedRead (file : List ℕ) (mends : List FileMend) (read : List ℕ) : Type 0 where
  pub given : List ℕ
  pub before : List FileMend
  pub is_given : IsGiven file before given
  pub parts : List FileMend
  pub mends_are : mends ≡ before ++ parts
  pub emptied : MendsRules file given parts read

-- what is read is opened, or it breaks a rule first
abbrev pub IsFitOpened : Bool → List ℕ → OpenedFile → Type 0
IsFitOpened plain read found = MatchResult found.opened (IsOpenedFit plain read) (IsReadFault (fit_rules read))

pub record IsOpenedFile (plain : Bool) (file : List ℕ) (found : OpenedFile) : Type 0 where
  pub read_as : IsMendedRead file found.mended.mends (bytes_read file found.mended)
  pub opened : IsFitOpened plain (bytes_read file found.mended) found

-- the first broken rule of what is read is mended, and the mend is behind the others
pub record MendsCopyFirst (file : List ℕ) (old new : FileCopy) (mend : FileMend) : Type 0 where
  pub mends : MendsFirst (bytes_read file old) mend (bytes_read file new)
  pub list : new.mends ≡ old.mends ++ mend ∷ []

-- there is none that is mended, and all stays
pub record StaysFirst (file : List ℕ) (old new : FileCopy) : Type 0 where
  pub same : new ≡ old
  pub none : HasNoMend (bytes_read file old)

-- a file is opened or refused behind mends that are made already
pub record IsMendedOn (plain : Bool) (file : List ℕ) (most : ℕ) (before : FileCopy) (found : OpenedFile) : Type 0 where
  pub more : List FileMend
  pub mends_are : found.mended.mends ≡ before.mends ++ more
  pub in_turn : MendsInTurn most (bytes_read file before) more (bytes_read file found.mended)
  pub opened : IsFitOpened plain (bytes_read file found.mended) found
