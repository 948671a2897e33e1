-- The units of the mended document of a file: those of what the file means, but for what is printed of the mends, and
-- with the texts of stories as notes, where they are to be.
use Rattle.std.specs.Prelude.{◌≡◌, ℕ, List, ◌++◌, map, Option, Some, None}
use Rattle.doc_bits.specs.declared.places.Story.{Story}
use Rattle.doc_model.specs.declared.document.Document.{Document}
use Rattle.doc_meaning.specs.Meaning.{MeansDocument}
use Rattle.doc_mends.specs.declared.mends.DeletedRange.{DeletedRange}
use Rattle.doc_mends.specs.declared.mends.MadeNote.{MadeNote}
use Rattle.doc_mends.specs.declared.mends.RowMark.{RowMark}
use Rattle.doc_mends.specs.declared.mends.Mend.{Mend}
use Rattle.doc_mends.specs.declared.mends.Mend.TheVariants.{MakeNote, StrikeDeleted, KeepDeleted, DefineRow}
use Rattle.doc_mends.specs.UnitsStay.{LeavesUnits, units_of}
use Rattle.further_notes.specs.declared.stories.NotedStories.{NotedStories}
use Rattle.further_notes.specs.UnitsStay.{HoldsStories}
use Rattle.doc_fit.specs.Noted.{IsFitDocument}

-- mends that change properties alone are in front of the others
pub record AreBehindProperties (mends others : List Mend) : Type 0 where
  pub struck : List DeletedRange
  pub kept : List DeletedRange
  pub cells : List RowMark
  pub mends_are : mends ≡ map StrikeDeleted struck ++ (map KeepDeleted kept ++ (map DefineRow cells ++ others))

-- the document has the units of what the file means that the mends leave
pub record LeavesPlainUnits (file : List ℕ) (document : Document) (mends : List Mend) : Type 0 where
  pub meant : Document
  pub means : MeansDocument file meant
  pub others : List Mend
  pub behind : AreBehindProperties mends others
  pub left : LeavesUnits meant document others

-- a document with the units of what the file means holds the texts of these stories as notes, and the document has its
-- units that the mends leave
pub record LeavesNotedUnits (stories : NotedStories) (file : List ℕ) (document : Document) (mends : List Mend) :
    Type 0 where
  pub meant : Document
  pub means : MeansDocument file meant
  pub struck : Document
  pub same : (story : Story) → units_of struck story ≡ units_of meant story
  pub spliced : Document
  pub made : List MadeNote
  pub held : HoldsStories stories means.parts.text.wd means.parts.text.table struck spliced made
  pub properties : List Mend
  pub mends_are : mends ≡ map MakeNote made ++ properties
  pub others : List Mend
  pub behind : AreBehindProperties properties others
  pub left : LeavesUnits spliced document others

abbrev pub LeavesFitUnits : (noted : Option NotedStories) → List ℕ → Document → List Mend → Type 0
LeavesFitUnits (Some stories) file document mends = LeavesNotedUnits stories file document mends
LeavesFitUnits None file document mends = LeavesPlainUnits file document mends

abbrev pub FitUnitsStay : Type 0
FitUnitsStay =
    (noted : Option NotedStories) (file : List ℕ) (document : Document) (mends : List Mend) →
    IsFitDocument noted file document mends → LeavesFitUnits noted file document mends
