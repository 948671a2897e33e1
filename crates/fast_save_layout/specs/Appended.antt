-- The streams of a save behind an old stream, as functions of what it is made of and of the Clx of its pieces. Each
-- number is a length; nothing is gone through.
use Rattle.std.specs.Prelude.{ℕ, ◌+◌, ◌-◌, ◌*◌, nat_lt, true, List, ◌++◌, length, map, drop, replicate}
use Rattle.std.specs.Prelude.{if◌then◌else◌}
use Rattle.cfb_streams.specs.Contents.{NamedBytes, Contents}
use Rattle.cfb_streams.specs.Names.{wd_name, table_name}
use Rattle.cfb_layout.specs.Sectors.{units_for, filled, padded_to_unit}
use Rattle.cfb_layout.specs.Layout.{contents_of}
use Rattle.cfb_in_place.specs.Change.{StreamChange}
use Rattle.fib_form.specs.Fib.{form_size, table_part}
use Rattle.fib_form.specs.FibFields.{FibFields}
use Rattle.fib_form.specs.FibBytes.{written_fib}
use Rattle.fib_form.specs.TableParts.{pair_number}
use Rattle.fib_form.specs.TableEntries.{TableEntry}
use Rattle.fib_form.specs.declared.table_parts.TablePart.TheVariants.{PlcfBteChpx, PlcfBtePapx}
use Rattle.fkp_pages.specs.declared.kind.PageKind.{PageKind}
use Rattle.fkp_pages.specs.declared.kind.PageKind.TheVariants.{Chpx, Papx}
use Rattle.fkp_pages.specs.declared.lists.Bin.{Bin}
use Rattle.fkp_pages.specs.declared.lists.Run.{Run}
use Rattle.fkp_pages.specs.declared.packing.Pages.{Pages}
use Rattle.fkp_pages.specs.Bin.{printed_bin}
use Rattle.fkp_pages.specs.Packed.{pages_of}
use Rattle.fkp_pages.specs.InARow.{numbered_bins}
use Rattle.doc_model.specs.Collected.{sections_of}
use Rattle.doc_parts.specs.declared.lists.Sed.{Sed}
use Rattle.full_save.specs.declared.table_text.TableText.{TableText}
use Rattle.full_save.specs.Runs.{text_runs}
use Rattle.full_save.specs.TableText.{table_entries}
use Rattle.full_save.specs.TableStream.{entries_bytes, entries_pairs}
use Rattle.full_save.specs.WordDocument.{units_bytes}
use Rattle.save_laws.specs.Places.{PagedStream}
use Rattle.save_laws.specs.Slots.{story_counts}
use Rattle.save_laws.specs.Saves.{SavedText}
use Rattle.fast_save_layout.specs.Saves.{FastSave}
use Rattle.fast_save_layout.specs.KeptBins.{kept_bins, kept_end}
use Rattle.fast_save_layout.specs.MarkRuns.{mark_runs, mark_runs_end}
use Rattle.fast_save_layout.specs.PlannedSections.{planned_sepxes, planned_seds}
use Rattle.fast_save_layout.specs.RenewedStreams.{bytes_named, renewed_streams}

-- ---- what is there

-- the name of the table stream, which stays
abbrev pub table_name_of : FastSave → List ℕ
table_name_of save = table_name save.fib.which_table

abbrev pub old_wd : FastSave → List ℕ
old_wd save = bytes_named save.contents.streams wd_name

abbrev pub old_table : FastSave → List ℕ
old_table save = bytes_named save.contents.streams (table_name_of save)

-- the bin table of a kind of pages
abbrev pub old_bins : PageKind → FastSave → List ℕ
old_bins Chpx save = table_part (old_wd save) (old_table save) (pair_number PlcfBteChpx)
old_bins Papx save = table_part (old_wd save) (old_table save) (pair_number PlcfBtePapx)

abbrev pub old_stream : FastSave → PagedStream
old_stream save = record { wd = old_wd save; characters = old_bins Chpx save; paragraphs = old_bins Papx save }

-- ---- what is added

-- where the added units end
abbrev pub added_end : FastSave → ℕ
added_end save = save.base + 2 * length save.added

-- where the runs of a kind begin, and where its bin table ends, which is where its last run does
abbrev pub runs_begin : PageKind → FastSave → ℕ
runs_begin Chpx save = save.base
runs_begin Papx save = kept_end (old_bins Papx save) save.base

abbrev pub bins_end : PageKind → FastSave → ℕ
bins_end Chpx save = added_end save
bins_end Papx save = mark_runs_end (old_bins Papx save) save.base save.added

-- the runs: of characters, and of paragraphs, each up to its mark
abbrev pub added_runs : PageKind → FastSave → List Run
added_runs Chpx save = text_runs Chpx save.base save.added
added_runs Papx save = mark_runs (old_bins Papx save) save.base save.added

abbrev pub added_pages : PageKind → FastSave → Pages
added_pages kind save = pages_of kind (added_runs kind save)

-- how many they are
abbrev pub added_page_count : FastSave → ℕ
added_page_count save = length (added_pages Chpx save).starts + length (added_pages Papx save).starts

-- the number of the first page of a kind: a page is at 512 times its number
abbrev pub first_page : PageKind → FastSave → ℕ
first_page Chpx save = units_for 512 (added_end save)
first_page Papx save = units_for 512 (added_end save) + length (added_pages Chpx save).starts

-- where the pages end and Sepxes begin
abbrev pub added_pages_end : FastSave → ℕ
added_pages_end save = 512 * (first_page Papx save + length (added_pages Papx save).starts)

-- WordDocument from the added text on: the units and zeros up to a page, the pages, the Sepxes that are written
unfoldable pub added_bytes : FastSave → List ℕ
added_bytes save =
    padded_to_unit 512 0 (units_bytes (map (λ item. item.unit) save.added))
    ++ ((added_pages Chpx save).bytes
    ++ ((added_pages Papx save).bytes ++ planned_sepxes save.places (sections_of save.document.main)))

-- ---- the table stream

-- the ranges of a bin table: the old ones that begin before the added text, and those of the new pages
abbrev pub fast_bins : PageKind → FastSave → List Bin
fast_bins kind save =
    kept_bins (old_bins kind save) save.base ++ numbered_bins (first_page kind save) (added_pages kind save).starts

-- the last old range ends at the first new one. Of paragraphs, without an item, the table ends where the old one did
unfoldable pub fast_bin_table : PageKind → FastSave → List ℕ
fast_bin_table kind save = printed_bin (fast_bins kind save) (bins_end kind save)

abbrev pub fast_seds : FastSave → List Sed
fast_seds save = planned_seds 0 (added_pages_end save) save.places (sections_of save.document.main)

-- what the table stream has beside the document
abbrev pub fast_text : FastSave → List ℕ → TableText
fast_text save clx = record {
  counts = story_counts save.document save.ends;
  seds = fast_seds save;
  characters = fast_bin_table Chpx save;
  paragraphs = fast_bin_table Papx save;
  clx = clx;
}

abbrev pub fast_entries : FastSave → List ℕ → List TableEntry
fast_entries save clx = table_entries save.document (fast_text save clx)

-- the least length of the table stream beside an old WordDocument of so many bytes: both have sectors of their own, or
-- neither need
abbrev pub least_beside : ℕ → ℕ
least_beside len = if nat_lt len 4096 then 0 else 4096

-- its parts, and zeros up to that length
unfoldable pub fast_table : FastSave → List ℕ → List ℕ
fast_table save clx = filled (least_beside (length (old_wd save))) 0 (entries_bytes (fast_entries save clx))

-- ---- WordDocument

-- [MS-DOC] FIB after one more quick save, of the same form
unfoldable pub fast_fib : FastSave → List ℕ → FibFields
fast_fib save clx = record {
  form = save.fib.form;
  kept = save.fib.kept;
  quick_saves = save.fib.quick_saves + 1;
  complex = true;
  which_table = save.fib.which_table;
  cb_mac = save.base + length (added_bytes save);
  ccps = story_counts save.document save.ends;
  pairs = entries_pairs (fast_entries save clx);
}

-- the old stream with its new FIB, zeros up to the added text, and what is added
unfoldable pub fast_wd : FastSave → List ℕ → List ℕ
fast_wd save clx =
    filled save.base 0 (written_fib (fast_fib save clx) ++ drop (form_size save.fib.form) (old_wd save))
    ++ added_bytes save

-- ---- the file

-- what is changed where the file keeps its own sectors: the FIB, what comes behind the old stream, and the table stream
abbrev pub change_of : FastSave → List ℕ → StreamChange
change_of save clx = record {
  fib = written_fib (fast_fib save clx);
  tail = replicate (save.base - length (old_wd save)) 0 ++ added_bytes save;
  table = fast_table save clx;
}

-- else the streams are laid out anew
unfoldable pub fast_streams : FastSave → List ℕ → List NamedBytes
fast_streams save clx =
    renewed_streams (table_name_of save) (fast_wd save clx) (fast_table save clx) save.contents.streams

abbrev pub fast_contents : FastSave → List ℕ → Contents
fast_contents save clx = contents_of (fast_streams save clx) save.contents.clsid

-- the save in the words of all saves
abbrev pub fast_saved_text : FastSave → List ℕ → SavedText
fast_saved_text save clx = record {
  pieces = save.pieces;
  clx = clx;
  stream = record {
    wd = fast_wd save clx;
    characters = fast_bin_table Chpx save;
    paragraphs = fast_bin_table Papx save;
  };
  seds = fast_seds save;
  ends = save.ends;
}
