-- A text that is loaded in place of the one that the streams name: with a FIB of the early form in front, with the
-- front of its pieces, and with the codes skipped that are not read, or with none skipped.
use Rattle.std.specs.Prelude.{◌≡◌, ◌⊎◌, ℕ, List, drop}
use Rattle.doc_bits.specs.Rules.{Hold}
use Rattle.cfb_streams.specs.Contents.{Contents}
use Rattle.fib_form.specs.Fib.{form_size}
use Rattle.fib_form.specs.FibFields.{fib_fields}
use Rattle.fib_form.specs.declared.form.Form.TheVariants.{Early}
use Rattle.fib_versions.specs.Early.{early_pairs, early_fields}
use Rattle.page_copies.specs.Pages.{SkipsPages}
use Rattle.doc_model.specs.declared.document.Document.{Document}
use Rattle.file_rules.specs.FormatRules.{text_count}
use Rattle.file_rules.specs.PartRules.{PartLists, HasPartLists, part_rules}
use Rattle.file_rules.specs.FileRules.{FileText, HasFileText, doc_source_of}
use Rattle.doc_read.specs.Holds.{IsDocumentFrom}
use Rattle.doc_meaning.specs.Meaning.{MeansFrom}
use Rattle.doc_meaning.specs.Skipped.{bin_tables_of, plcf_sed, SkipsFirst, KeepsSepxs}
use Rattle.doc_meaning.specs.Apart.{ReadsClx}
use Rattle.doc_meaning.specs.Lifted.{KeepsPlaces, KeepsUnits}

-- a stream with skipped pages, or as it is
abbrev pub MaySkipPages : FileText → List ℕ → Type 0
MaySkipPages old pages = SkipsPages (bin_tables_of old.wd old.table) old.wd pages ⊎ (pages ≡ old.wd)

-- a table stream with a skipped style sheet, or as it is
abbrev pub KeepsTable : FileText → List ℕ → Type 0
KeepsTable old table = SkipsFirst (early_pairs old.wd) old.table table ⊎ (table ≡ old.table)

pub record IsLoadedFor (old new : FileText) : Type 0 where
  pub pages : List ℕ
  pub kept_pages : MaySkipPages old pages
  pub behind : drop (form_size Early) new.wd ≡ drop (form_size Early) pages
  pub fields : fib_fields new.wd ≡ early_fields old.wd (early_pairs old.wd)
  pub table : KeepsTable old new.table
  pub places : KeepsPlaces old.pieces new.pieces (text_count (doc_source_of new))
  pub units : KeepsUnits old new (text_count (doc_source_of new))
  pub sepxs : KeepsSepxs (plcf_sed old.wd old.table) old.wd new.wd

-- where the rules on the parts hold of it, the document of it is what the streams mean. The codes of the Prcs of the
-- table stream may be skipped first
abbrev pub LoadedIsMeant : Type 0
LoadedIsMeant =
    (contents : Contents) (old : FileText) (table : List ℕ) (new : FileText) (lists : PartLists)
    (document : Document) → HasFileText contents old → ReadsClx (early_pairs old.wd) old.table table →
    IsLoadedFor (record old { table = table }) new → Hold (part_rules (doc_source_of new)) →
    HasPartLists (doc_source_of new) lists →
    IsDocumentFrom contents new lists document → MeansFrom contents document
