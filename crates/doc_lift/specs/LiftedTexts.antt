-- What is lifted out of the streams of a file: the document that they mean, the units of the whole text, and what of it
-- a reviser deleted.
use Rattle.std.specs.Prelude.{◌≡◌}
use Rattle.doc_bits.specs.Rules.{Rules, Hold}
use Rattle.doc_bits.specs.Places.{Place}
use Rattle.cfb_streams.specs.Contents.{Contents}
use Rattle.fib_versions.specs.VersionRules.{version_rules}
use Rattle.doc_model.specs.Marks.{HasFormedBookmarks}
use Rattle.file_rules.specs.Units.{text_units}
use Rattle.file_rules.specs.FileRules.{FileText, HasFileText}
use Rattle.deleted_text.specs.Texts.{AreTextDeletions}
use Rattle.huge_papx.specs.Texts.{AreTextOffsets}
use Rattle.doc_meaning.specs.Meaning.{MeansFrom}
use Rattle.doc_lift.specs.declared.text_lifting.LiftedText.{LiftedText}

-- streams that break none of these rules have it
pub record IsLiftedBy (rules : Rules Place) (contents : Contents) (lifted : LiftedText) : Type 0 where
  pub hold : Hold rules
  pub text : FileText
  pub has_text : HasFileText contents text
  pub fib : Hold (version_rules text.wd)
  pub units : lifted.units.items ≡ text_units text.wd text.pieces
  pub deleted : AreTextDeletions text lifted.deleted.items
  pub offsets : AreTextOffsets text lifted.offsets.items
  pub means : MeansFrom contents lifted.document
  pub formed : HasFormedBookmarks lifted.document
