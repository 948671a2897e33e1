-- The rules of a file of any program, 1 to 57: those of doc_load's `file_rules` as they are left, of which 10 is gone
-- too; and what is lifted out of a file that breaks none.
use Rattle.std.specs.Prelude.{◌≡◌, ℕ, List}
use Rattle.doc_bits.specs.declared.places.Where.TheVariants.{File}
use Rattle.doc_bits.specs.Rules.{Rules, ◌then◌, given, Hold, Breaks, IsLeastOfAll}
use Rattle.doc_bits.specs.Places.{Place, Upto, IsFirstPlace, rules_in}
use Rattle.cfb_streams.specs.Container.{outer_rules, HasContents, ListsStorages}
use Rattle.fib_versions.specs.VersionRules.{version_rules}
use Rattle.doc_model.specs.Marks.{HasFormedBookmarks}
use Rattle.file_rules.specs.Units.{text_units}
use Rattle.file_rules.specs.FileRules.{FileText, HasFileText}
use Rattle.deleted_text.specs.Texts.{AreTextDeletions}
use Rattle.huge_papx.specs.Texts.{AreTextOffsets}
use Rattle.doc_meaning.specs.Meaning.{MeansDocument}
use Rattle.doc_lift.specs.declared.lifting.Lifted.{Lifted}
use Rattle.doc_lift.specs.LiftedRules.{lifted_contents_rules}

-- rules 1 to 57
abbrev pub lifted_rules : List ℕ → Rules Place
lifted_rules file = rules_in File (outer_rules file) then given (HasContents file) lifted_contents_rules

-- the first broken rule is the least of all broken ones, at its least place
abbrev pub FirstLiftedFaultIsLeast : Type 0
FirstLiftedFaultIsLeast =
    (file : List ℕ) (number : ℕ) (place : Place) → IsFirstPlace (lifted_rules file) number place →
    IsLeastOfAll Upto (Breaks (lifted_rules file)) number place

-- none of them is broken; the file means the document, and has these streams, these storages and these units
pub record IsLifted (file : List ℕ) (lifted : Lifted) : Type 0 where
  pub rules : Hold (lifted_rules file)
  pub has_contents : HasContents file lifted.outer.container
  pub storages : ListsStorages file lifted.outer.storages
  pub text : FileText
  pub has_text : HasFileText lifted.outer.container text
  pub fib : Hold (version_rules text.wd)
  pub units : lifted.units.items ≡ text_units text.wd text.pieces
  pub deleted : AreTextDeletions text lifted.deleted.items
  pub offsets : AreTextOffsets text lifted.offsets.items
  pub means : MeansDocument file lifted.document
  pub formed : HasFormedBookmarks lifted.document
