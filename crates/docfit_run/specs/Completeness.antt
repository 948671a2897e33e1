-- When a file must be fitted.
use Rattle.std.specs.Prelude.{◌≡◌, ℕ, List, Option, Some}
use Rattle.doc_bits.specs.Rules.{Hold}
use Rattle.doc_outer.specs.Held.{Files, file_at}
use Rattle.doc_model.specs.declared.document.Document.{Document}
use Rattle.full_save.specs.Layout.{FitsCompoundFile}
use Rattle.doc_mends.specs.declared.mends.Mend.{Mend}
use Rattle.further_notes.specs.declared.stories.NotedStories.{NotedStories}
use Rattle.doc_fit.specs.Rules.{fit_rules}
use Rattle.file_mends.specs.declared.mends.FileMend.{FileMend}
use Rattle.doc_fit.specs.Noted.{IsFitDocument}
use Rattle.doc_fit.specs.ReadAs.{IsMendedRead}

-- the name holds a file that breaks none of the rules that are left, as it is read, and its mended document fits a
-- file, with endnotes and comments as notes and without
pub record CanFit (files : Files) (name : List ℕ) : Type 0 where
  pub bytes : List ℕ
  pub there : file_at files name ≡ Some bytes
  pub mends : List FileMend
  pub read : List ℕ
  pub read_as : IsMendedRead bytes mends read
  pub hold : Hold (fit_rules read)
  pub fits :
      (noted : Option NotedStories) (document : Document) (mends : List Mend) → IsFitDocument noted read document mends
      →
      FitsCompoundFile document
