-- The rules that are left: those of the file, and those on the document that it means, once this is mended.
use Rattle.std.specs.Prelude.{◌≡◌, List, ℕ, ◌++◌}
use Rattle.doc_bits.specs.Rules.{Rules, ◌then◌, given, Hold}
use Rattle.doc_bits.specs.Places.{Place}
use Rattle.doc_model.specs.declared.document.Document.{Document}
use Rattle.plain_doc.specs.Sound.{document_rules}
use Rattle.doc_losses.specs.References.{names_of}
use Rattle.doc_mends.specs.declared.mends.Mend.{Mend}
use Rattle.doc_mends.specs.Mending.{IsMended}
use Rattle.file_rules.specs.FileRules.{FileText}
use Rattle.huge_papx.specs.Texts.{IsStruckDefined}
use Rattle.doc_meaning.specs.Meaning.{MeansDocument}
use Rattle.doc_lift.specs.LiftedFiles.{lifted_rules}

-- what a reviser deleted of the document of a text is struck, rows get the cells that Data has for them, and then the
-- document is mended; the tables name the marks of stories that are left out
pub record IsMendedText (text : FileText) (meant mended : Document) (mends : List Mend) : Type 0 where
  pub struck : Document
  pub strikes : List Mend
  pub struck_is : IsStruckDefined text meant struck strikes
  pub others : List Mend
  pub mended_is : IsMended (names_of text.wd text.table) struck mended others
  pub mends_are : mends ≡ strikes ++ others

-- the document is the mended one of what the file means
pub record HasMended (file : List ℕ) (document : Document) : Type 0 where
  pub meant : Document
  pub means : MeansDocument file meant
  pub mends : List Mend
  pub mended_is : IsMendedText means.parts.text meant document mends

-- and the file breaks none of the rules 1 to 57 that are left
pub record LiftsTo (file : List ℕ) (document : Document) : Type 0 where
  pub rules : Hold (lifted_rules file)
  pub mended : HasMended file document

abbrev pub fit_rules : List ℕ → Rules Place
fit_rules file = lifted_rules file then given (LiftsTo file) document_rules
