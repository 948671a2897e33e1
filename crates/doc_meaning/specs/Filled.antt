-- A text that is read with its gaps filled: a page of one run without properties is behind its WordDocument, and
-- bin tables that name that page at each gap are behind its table stream.
use Rattle.std.specs.Prelude.{◌≡◌, ◌⊎◌, ℕ, ◌+◌, ◌<◌, ◌≤◌, ◌^◌, List, ◌++◌, length, drop, slice_set}
use Rattle.doc_bits.specs.Rules.{Hold}
use Rattle.doc_bits.specs.Places.{Place, IsFirstPlace}
use Rattle.cfb_streams.specs.Contents.{Contents}
use Rattle.fib_form.specs.Fib.{form_size, kept_pairs}
use Rattle.fib_form.specs.FibFields.{FibFields, fib_fields, listed_pair}
use Rattle.fib_form.specs.FibBytes.{written_fib}
use Rattle.fib_form.specs.TableParts.{pair_number}
use Rattle.fib_form.specs.declared.form.Form.TheVariants.{Early}
use Rattle.fib_form.specs.declared.table_parts.TablePart.TheVariants.{PlcfBteChpx, PlcfBtePapx, PlfLst}
use Rattle.fib_versions.specs.Early.{early_pairs, early_fields}
use Rattle.fkp_pages.specs.declared.kind.PageKind.{PageKind}
use Rattle.fkp_gaps.specs.Gaps.{ArePagesWithin}
use Rattle.fkp_gaps.specs.Filled.{IsFilledBin, next_page, with_empty_run}
use Rattle.page_copies.specs.Pages.{BinTables, bin_table_of}
use Rattle.doc_model.specs.declared.document.Document.{Document}
use Rattle.file_rules.specs.Source.{DocSource}
use Rattle.file_rules.specs.FormatRules.{text_count}
use Rattle.file_rules.specs.PartRules.{PartLists, HasPartLists, part_rules}
use Rattle.file_rules.specs.FileRules.{FileText, HasFileText, doc_source_of}
use Rattle.doc_read.specs.Holds.{IsDocumentFrom}
use Rattle.doc_meaning.specs.Meaning.{MeansFrom}
use Rattle.doc_meaning.specs.Skipped.{bin_tables_of}
use Rattle.doc_meaning.specs.Apart.{EndBefore, ReadsClx}
use Rattle.doc_meaning.specs.Lifted.{KeepsPlaces, KeepsUnits}
use Rattle.doc_meaning.specs.Loaded.{IsLoadedFor}

-- ---- which texts are filled

-- the rules that a gap breaks: no range of a bin table holds the place, no run of its page, or its list is none
abbrev pub IsGapRule : ℕ → Type 0
IsGapRule rule = (rule ≡ 39) ⊎ ((rule ≡ 41) ⊎ ((rule ≡ 44) ⊎ ((rule ≡ 46) ⊎ (rule ≡ 47))))

-- the first broken rule is one of them
pub record BreaksAtGap (source : DocSource) : Type 0 where
  pub number : ℕ
  pub place : Place
  pub first : IsFirstPlace (part_rules source) number place
  pub gap : IsGapRule number

-- a part has no bytes, or ends within a table stream of this length
abbrev pub IsPartWithin : ℕ → ℕ × ℕ → Type 0
IsPartWithin len pair = (pair.1 ≡ 0) ⊎ (pair.0 + pair.1 ≤ len)

-- PlfLst has no bytes, or its levels end within the table stream
abbrev pub AreLevelsWithin : List ℕ → ℕ × ℕ → Type 0
AreLevelsWithin table pair = (pair.1 ≡ 0) ⊎ EndBefore table pair (length table)

-- parts that nothing behind the table stream can become a part of
pub record ArePartsWithin (pairs : List (ℕ × ℕ)) (table : List ℕ) : Type 0 where
  pub each : (n : ℕ) → n < kept_pairs → IsPartWithin (length table) (listed_pair pairs n)
  pub levels : AreLevelsWithin table (listed_pair pairs (pair_number PlfLst))

-- streams of a WordDocument that can be filled
pub record CanFill (wd old_wd old_table : List ℕ) : Type 0 where
  pub pages : (kind : PageKind) → ArePagesWithin (bin_table_of kind (bin_tables_of old_wd old_table)) old_wd
  pub parts : ArePartsWithin (early_pairs wd) old_table

-- ---- how they are

-- the pairs of the FIB, where both bin tables are behind the table stream
abbrev pub filled_pairs : List (ℕ × ℕ) → ℕ → BinTables → List (ℕ × ℕ)
filled_pairs pairs at bins =
    slice_set (slice_set pairs (pair_number PlcfBteChpx) (at, length bins.characters)) (pair_number PlcfBtePapx)
    (at + length bins.characters, length bins.paragraphs)

abbrev pub filled_fields : List ℕ → List ℕ → BinTables → FibFields
filled_fields wd table bins = early_fields wd (filled_pairs (early_pairs wd) (length table) bins)

-- streams of a WordDocument with the page and the bin tables behind them
pub record FillsStreams (wd old_wd old_table new_wd new_table : List ℕ) : Type 0 where
  pub bins : BinTables
  pub filled :
      (kind : PageKind) →
      IsFilledBin kind (bin_table_of kind (bin_tables_of old_wd old_table)) old_wd (next_page old_wd) (bin_table_of kind
      bins)
  pub table_is : new_table ≡ old_table ++ (bins.characters ++ bins.paragraphs)
  pub front : new_wd ≡ written_fib (filled_fields wd old_table bins) ++ drop (form_size Early) (with_empty_run old_wd)
  pub fields : fib_fields new_wd ≡ filled_fields wd old_table bins

-- ---- what they mean

-- the streams of a text that is filled for one that was loaded, where a gap breaks the first broken rule of that
pub record HasFilledStreams (wd : List ℕ) (loaded new : FileText) : Type 0 where
  pub gap : BreaksAtGap (doc_source_of loaded)
  pub can : CanFill wd loaded.wd loaded.table
  pub fills : FillsStreams wd loaded.wd loaded.table new.wd new.table
  pub small : length new.wd < 2 ^ 32

-- such a text for the one that the streams name
pub record IsFilledFor (old loaded new : FileText) : Type 0 where
  pub streams : HasFilledStreams old.wd loaded new
  pub places : KeepsPlaces old.pieces new.pieces (text_count (doc_source_of new))
  pub units : KeepsUnits old new (text_count (doc_source_of new))

-- where the rules on the parts hold of it, the document of it is what the streams mean
abbrev pub FilledIsMeant : Type 0
FilledIsMeant =
    (contents : Contents) (old : FileText) (table : List ℕ) (loaded new : FileText) (lists : PartLists)
    (document : Document) → HasFileText contents old → ReadsClx (early_pairs old.wd) old.table table →
    IsLoadedFor (record old { table = table }) loaded → IsFilledFor (record old { table = table }) loaded new →
    Hold (part_rules (doc_source_of new)) → HasPartLists (doc_source_of new) lists →
    IsDocumentFrom contents new lists document → MeansFrom contents document
