-- The document that a text means, with what a reviser deleted struck, and then the cells of rows that Data has.
use Rattle.std.specs.Prelude.{◌≡◌, ℕ, List, ◌++◌, Option}
use Rattle.fib_form.specs.declared.table_parts.TablePart.TheVariants.{PlcfBtePapx}
use Rattle.doc_model.specs.declared.document.Document.{Document}
use Rattle.file_rules.specs.Source.{table_part_bytes}
use Rattle.file_rules.specs.FormatRules.{judged_places}
use Rattle.file_rules.specs.FileRules.{FileText, doc_source_of}
use Rattle.file_rules.specs.Units.{text_units}
use Rattle.doc_mends.specs.declared.mends.Mend.{Mend}
use Rattle.deleted_text.specs.Ranges.{begins_of}
use Rattle.deleted_text.specs.Texts.{IsStruckText}
use Rattle.huge_papx.specs.Offsets.{AreOffsets}
use Rattle.huge_papx.specs.Defined.{IsDefined}

-- of each CP of its three stories, which place of Data its paragraph names
abbrev pub AreTextOffsets : FileText → List (Option ℕ) → Type 0
AreTextOffsets text offsets =
    AreOffsets text.wd (table_part_bytes (doc_source_of text) PlcfBtePapx) (judged_places (doc_source_of text))
    (text_units text.wd text.pieces) offsets

-- this document with the cells of its rows
pub record IsDefinedText (text : FileText) (before after : Document) (mends : List Mend) : Type 0 where
  pub offsets : List (Option ℕ)
  pub named : AreTextOffsets text offsets
  pub is : IsDefined (begins_of text.wd) offsets before after mends

-- first what a reviser deleted of it is struck
pub record IsStruckDefined (text : FileText) (meant after : Document) (mends : List Mend) : Type 0 where
  pub struck : Document
  pub strikes : List Mend
  pub struck_is : IsStruckText text meant struck strikes
  pub definitions : List Mend
  pub defined_is : IsDefinedText text struck after definitions
  pub mends_are : mends ≡ strikes ++ definitions
