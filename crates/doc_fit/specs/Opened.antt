-- A file of any program from Word 97 to 2007 that is opened: the document that it means is mended and sound, and each
-- feature that it leaves out has its line.
use Rattle.std.specs.Prelude.{◌≡◌, ℕ, List}
use Rattle.cfb_streams.specs.Container.{HasContents}
use Rattle.plain_doc.specs.Sound.{IsSound}
use Rattle.doc_lift.specs.declared.lifting.Lifted.{Lifted}
use Rattle.doc_lift.specs.LiftedFiles.{IsLifted}
use Rattle.file_rules.specs.FileRules.{FileText, HasFileText}
use Rattle.deleted_text.specs.Ranges.{begins_of}
use Rattle.deleted_text.specs.Texts.{AreTextDeletions}
use Rattle.huge_papx.specs.Texts.{AreTextOffsets}
use Rattle.doc_losses.specs.Marks.{AreFileMarks}
use Rattle.doc_mends.specs.declared.mends.Mend.{Mend}
use Rattle.doc_fit.specs.declared.losses.Found.{Found}
use Rattle.doc_fit.specs.declared.opening.OpenedAny.{OpenedAny}
use Rattle.doc_fit.specs.Losses.{AreLossLines}
use Rattle.doc_fit.specs.Rules.{IsMendedText}

-- the lines of what is left out of what is lifted, the CPs of the marks of stories that are left out, and where the
-- stories begin
pub record AreFoundLosses (lifted : Lifted) (found : Found) : Type 0 where
  pub losses : AreLossLines lifted found.losses
  pub marks : AreFileMarks losses.wd losses.table found.marks
  pub begins : found.begins ≡ begins_of losses.wd

-- the text that the streams name, what of it a reviser deleted, and which places of Data its paragraphs name
pub record HasDeletions (lifted : Lifted) : Type 0 where
  pub file : List ℕ
  pub has_contents : HasContents file lifted.outer.container
  pub text : FileText
  pub has_text : HasFileText lifted.outer.container text
  pub deleted : AreTextDeletions text lifted.deleted.items
  pub offsets : AreTextOffsets text lifted.offsets.items

-- what is lifted, before and after its document is mended: the lines are those of the one before
pub record IsReported (before after : Lifted) (lines : List (List ℕ)) (mends : List Mend) : Type 0 where
  pub losses : AreLossLines before lines
  pub text : FileText
  pub has_text : HasFileText before.outer.container text
  pub mended : IsMendedText text before.document after.document mends

pub record IsOpenedAny (file : List ℕ) (opened : OpenedAny) : Type 0 where
  pub before : Lifted
  pub lifts : IsLifted file before
  pub reported : IsReported before opened.lifted opened.losses opened.mends.items
  pub sound : IsSound opened.lifted.document
