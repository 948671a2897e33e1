-- What is read in place of a file, and how a broken rule is mended in it.
use Rattle.std.specs.Prelude.{◌≡◌, ◌⊎◌, ℕ, List, [], ◌∷◌, ◌++◌, Option, unwrap_or}
use Rattle.file_mends.specs.declared.mends.FileMend.{FileMend}
use Rattle.file_mends.specs.declared.mends.FileMend.TheVariants.{PartEmptied}
use Rattle.file_mends.specs.declared.part_places.PartPlace.{PartPlace}
use Rattle.file_mends.specs.declared.sheet_changes.SheetChange.{SheetChange}
use Rattle.file_mends.specs.Places.{IsPartPlace, zeroed}
use Rattle.file_mends.specs.Rewritten.{rewritten}
use Rattle.file_mends.specs.SheetPlaces.{SheetPlace, IsSheetPlace}
use Rattle.file_mends.specs.SheetChanges.{ChangesSheet}

-- a copy of the file, where there is one, and the mends in it
pub record FileCopy : Type 0 where
  pub copy : Option (List ℕ)
  pub mends : List FileMend

abbrev pub bytes_read : List ℕ → FileCopy → List ℕ
bytes_read file mended = unwrap_or mended.copy file

-- the part whose own rule is broken has the pair of an empty part
pub record MendsPart (file : List ℕ) (rule offset : ℕ) (mend : FileMend) (mended : List ℕ) : Type 0 where
  pub place : PartPlace
  pub is_place : IsPartPlace file rule offset place
  pub mend_is : mend ≡ PartEmptied place.pair
  pub mended_is : mended ≡ zeroed place.at place.len file

-- the style sheet of which a slot breaks its rule is changed
pub record MendsSheet (file : List ℕ) (rule offset : ℕ) (mend : FileMend) (mended : List ℕ) : Type 0 where
  pub sheet : SheetPlace
  pub is_sheet : IsSheetPlace file sheet
  pub change : SheetChange
  pub changes : ChangesSheet sheet rule offset change
  pub mend_is : mend ≡ change.mend
  pub mended_is : mended ≡ rewritten sheet.sectors change.at change.bytes file

abbrev pub MendsRule : (file : List ℕ) (rule offset : ℕ) → FileMend → List ℕ → Type 0
MendsRule file rule offset mend mended =
    MendsPart file rule offset mend mended ⊎ MendsSheet file rule offset mend mended

-- a broken rule of what is read is mended, and the mend is behind the others
pub record IsMendedBy (file : List ℕ) (rule offset : ℕ) (old new : FileCopy) (mend : FileMend) : Type 0 where
  pub mends : MendsRule (bytes_read file old) rule offset mend (bytes_read file new)
  pub list : new.mends ≡ old.mends ++ mend ∷ []

-- it is none that is mended, and all stays
pub record StaysUnmended (file : List ℕ) (rule offset : ℕ) (old new : FileCopy) : Type 0 where
  pub same : new ≡ old
  pub none : (mend : FileMend) (mended : List ℕ) → ¬ MendsRule (bytes_read file old) rule offset mend mended
