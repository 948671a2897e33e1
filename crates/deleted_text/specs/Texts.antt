-- What of the text of a file, and of the document that it means, a reviser deleted.
use Rattle.std.specs.Prelude.{◌≡◌, Bool, List}
use Rattle.fib_form.specs.declared.table_parts.TablePart.TheVariants.{PlcfBteChpx}
use Rattle.doc_model.specs.declared.document.Document.{Document}
use Rattle.file_rules.specs.Source.{table_part_bytes}
use Rattle.file_rules.specs.FormatRules.{judged_places}
use Rattle.file_rules.specs.FileRules.{FileText, doc_source_of}
use Rattle.doc_mends.specs.declared.mends.DeletedRange.{DeletedRange}
use Rattle.doc_mends.specs.declared.mends.Mend.{Mend}
use Rattle.deleted_text.specs.Places.{AreDeletions}
use Rattle.deleted_text.specs.Ranges.{document_ranges, begins_of}
use Rattle.deleted_text.specs.Strikes.{IsStruck}

-- of each CP of its three stories, whether it was deleted
abbrev pub AreTextDeletions : FileText → List Bool → Type 0
AreTextDeletions text flags =
    AreDeletions text.wd (table_part_bytes (doc_source_of text) PlcfBteChpx) (judged_places (doc_source_of text)) flags

-- the ranges of the document that it means
pub record AreDeletedRanges (text : FileText) (document : Document) (ranges : List DeletedRange) : Type 0 where
  pub flags : List Bool
  pub deletions : AreTextDeletions text flags
  pub are : ranges ≡ document_ranges (begins_of text.wd) flags document

-- this document with them struck
pub record IsStruckText (text : FileText) (meant struck : Document) (mends : List Mend) : Type 0 where
  pub ranges : List DeletedRange
  pub deleted : AreDeletedRanges text meant ranges
  pub is : IsStruck ranges meant struck mends
