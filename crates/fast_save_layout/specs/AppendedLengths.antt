-- How long the streams of a save behind an old stream are, and how many sectors its file has, by what is counted of it.
use Rattle.std.specs.Prelude.{ℕ, ◌+◌, ◌*◌, ◌≤◌, List, length, Option, not, is_some}
use Rattle.std.specs.List.{count_by}
use Rattle.cfb_sectors.specs.Header.{sector_count}
use Rattle.cfb_layout.specs.Counts.{most_sectors}
use Rattle.cfb_layout.specs.Sectors.{units_for}
use Rattle.fib_form.specs.FibFields.{FibFields, fib_fields}
use Rattle.fib_form.specs.declared.table_parts.TablePart.TheVariants.{PlcfBteChpx, PlcfBtePapx}
use Rattle.fkp_pages.specs.declared.kind.PageKind.TheVariants.{Chpx, Papx}
use Rattle.piece_table.specs.Printing.{IsPrintedClx}
use Rattle.doc_model.specs.Document.{IsFormedText}
use Rattle.doc_model.specs.Formed.{IsFormed}
use Rattle.full_save.specs.WordDocument.{table_stream}
use Rattle.save_laws.specs.ClxLengths.{HaveShortPrcs}
use Rattle.save_laws.specs.FastSizes.{SaveCounts, reckoned_sectors}
use Rattle.fast_save_layout.specs.declared.fault.AppendFault.TheVariants.{TooLarge}
use Rattle.fast_save_layout.specs.Saves.{FastSave}
use Rattle.fast_save_layout.specs.OldParts.{named_pair}
use Rattle.fast_save_layout.specs.Appended.{added_page_count, old_wd, fast_bin_table, fast_table, fast_wd}
use Rattle.fast_save_layout.specs.Kept.{CanBeFastSaved}
use Rattle.fast_save_layout.specs.Answers.{IsAppended, IsAppendFault, sectors_of}

-- the bytes of the two bin tables, as a FIB counts them
abbrev pub bin_bytes_of : FibFields → ℕ
bin_bytes_of fib = (named_pair fib PlcfBteChpx).1 + (named_pair fib PlcfBtePapx).1

-- the sections whose properties are still to be written
abbrev pub unwritten_count : List (Option ℕ) → ℕ
unwritten_count places = count_by (λ place. not (is_some place)) places

-- a save that can be appended is within what is counted: its added units, as whole pages, with the pages of their runs,
-- and these pages; the sections to be written; the pieces with their modifiers; the table stream of the full save; and
-- of the file that is there the bytes of the bin tables and the sectors
pub record IsSaveCounted (counts : SaveCounts) (save : FastSave) : Type 0 where
  pub can : CanBeFastSaved save
  pub formed : IsFormed save.document
  pub items : IsFormedText save.added
  pub text :
      512 * units_for 512 (2 * length save.added) + 512 * added_page_count save
      ≤ 2 * counts.units + 512 * counts.runs + 1536
  pub runs : 8 * added_page_count save ≤ 16 * counts.runs + 256
  pub sections : unwritten_count save.places ≤ counts.sections
  pub pieces : length save.pieces ≤ counts.pieces
  pub prcs : HaveShortPrcs counts.prc_bytes save.pieces
  pub table : length (table_stream save.document) ≤ counts.table_bytes
  pub bins : bin_bytes_of save.fib ≤ counts.bin_bytes
  pub sectors : sector_count save.file ≤ counts.sectors

-- ---- the bounds

-- the streams are short: WordDocument, the table stream, and the two bin tables together; and few sectors are needed
pub record AreShort (counts : SaveCounts) (save : FastSave) (clx : List ℕ) : Type 0 where
  pub wd :
      length (fast_wd save clx)
      ≤ length (old_wd save) + 2048 + 2 * counts.units + 512 * counts.runs + 512 * counts.sections
  pub table :
      length (fast_table save clx)
      ≤ counts.table_bytes
      + counts.bin_bytes
      + (12 + counts.prc_bytes) * counts.pieces
      + 16 * counts.runs
      + 4096
  pub bins :
      length (fast_bin_table Chpx save) + length (fast_bin_table Papx save)
      ≤ counts.bin_bytes + 16 * counts.runs + 256
  pub sectors : sectors_of save clx ≤ reckoned_sectors counts

abbrev pub AppendedSavesAreShort : Type 0
AppendedSavesAreShort =
    (counts : SaveCounts) (save : FastSave) (clx : List ℕ) → IsSaveCounted counts save →
    IsPrintedClx save.pieces clx → AreShort counts save clx

-- the file is short: its sectors, and the bytes that its FIB counts for the two bin tables
pub record IsShortFile (counts : SaveCounts) (file wd : List ℕ) : Type 0 where
  pub sectors : sector_count file ≤ reckoned_sectors counts
  pub bins : bin_bytes_of (fib_fields wd) ≤ counts.bin_bytes + 16 * counts.runs + 256

abbrev pub AppendedFilesAreShort : Type 0
AppendedFilesAreShort =
    (counts : SaveCounts) (save : FastSave) (file : List ℕ) → IsSaveCounted counts save → (made : IsAppended save file)
    →
    IsShortFile counts file (fast_wd save made.clx)

-- where the sectors that are reckoned are in a file, a save is never refused as too large
abbrev pub CountedSavesFit : Type 0
CountedSavesFit =
    (counts : SaveCounts) (save : FastSave) (sectors : ℕ) → IsSaveCounted counts save →
    reckoned_sectors counts ≤ most_sectors → ¬ IsAppendFault save (TooLarge sectors)
