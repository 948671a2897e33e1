-- What a save behind an old stream answers.
use Rattle.std.specs.Prelude.{◌≡◌, ◌⊎◌, ℕ, nat_lt, ◌<◌, ◌≤◌, List, length, if◌then◌else◌}
use Rattle.cfb_streams.specs.Contents.{Contents}
use Rattle.cfb_streams.specs.Names.{wd_name}
use Rattle.cfb_layout.specs.Counts.{Fits, sectors_needed, most_sectors}
use Rattle.cfb_layout.specs.Layout.{lengths_of, compound_file}
use Rattle.cfb_in_place.specs.Change.{added_for, sectors_after}
use Rattle.cfb_in_place.specs.Contract.{IsSavedInPlace}
use Rattle.fib_form.specs.FibFields.{fib_fields}
use Rattle.piece_table.specs.Printing.{IsPrintedClx}
use Rattle.save_laws.specs.FastSaves.{IsFastSaved}
use Rattle.save_laws.specs.Saves.{IsFileOfContents}
use Rattle.fast_save_layout.specs.declared.fault.AppendFault.{AppendFault}
use Rattle.fast_save_layout.specs.declared.fault.AppendFault.TheVariants.{Sixteenth, TooLarge, Memory}
use Rattle.fast_save_layout.specs.Saves.{FastSave, plan_of}
use Rattle.fast_save_layout.specs.RenewedStreams.{chain_named}
use Rattle.fast_save_layout.specs.Appended.{table_name_of, old_wd, old_stream, fast_streams, fast_contents}
use Rattle.fast_save_layout.specs.Appended.{fast_saved_text}
use Rattle.fast_save_layout.specs.Appended.{fast_table, fast_wd, fast_fib, change_of}

-- the sectors of the file that is laid out anew, and of the one that keeps its own
abbrev pub sectors_anew : FastSave → List ℕ → ℕ
sectors_anew save clx = sectors_needed (lengths_of (fast_streams save clx))

abbrev pub sectors_in_place : FastSave → List ℕ → ℕ
sectors_in_place save clx =
    sectors_after save.file
    (added_for save.file (length (chain_named save.contents.streams wd_name)) (length (fast_wd save clx))
    (length (fast_table save clx)))

-- the sectors that the file needs: it keeps its own where the old WordDocument has sectors of its own
abbrev pub sectors_of : FastSave → List ℕ → ℕ
sectors_of save clx =
    if nat_lt (length (old_wd save)) 4096 then sectors_anew save clx else sectors_in_place save clx

-- the file is the container of the streams, and fits
pub record IsAnew (save : FastSave) (clx file : List ℕ) (contents : Contents) : Type 0 where
  pub short : length (old_wd save) < 4096
  pub file_is : file ≡ compound_file (fast_streams save clx) save.contents.clsid
  pub fits : Fits (lengths_of (fast_streams save clx))
  pub contents_are : contents ≡ fast_contents save clx

-- the file is the old one, in whose own sectors WordDocument grew and the table stream was written anew
pub record IsInPlace (save : FastSave) (clx file : List ℕ) (contents : Contents) : Type 0 where
  pub long : 4096 ≤ length (old_wd save)
  pub in_place : IsSavedInPlace save.file file save.contents (change_of save clx) (table_name_of save)
  pub contents_are : contents ≡ in_place.after

-- the file is written in one of these ways, with one Prc for each modifier in use; the document is saved behind the old
-- stream; and the FIB has one more quick save
pub record IsAppended (save : FastSave) (file : List ℕ) : Type 0 where
  pub clx : List ℕ
  pub printed : IsPrintedClx save.pieces clx
  pub contents : Contents
  pub written : IsAnew save clx file contents ⊎ IsInPlace save clx file contents
  pub few_saves : save.fib.quick_saves < 15
  pub fib : fib_fields (fast_wd save clx) ≡ fast_fib save clx
  pub saved :
      IsFastSaved save.document (old_stream save) (plan_of save) (fast_saved_text save clx) (fast_table save clx)
      contents
  pub container : IsFileOfContents file contents

-- too many sectors are needed, with their number
pub record NeedsTooMany (save : FastSave) (sectors : ℕ) : Type 0 where
  pub clx : List ℕ
  pub printed : IsPrintedClx save.pieces clx
  pub many : most_sectors < sectors
  pub number : sectors ≡ sectors_of save clx

-- there were fifteen quick saves already; else too many sectors; want of memory is free
abbrev pub IsAppendFault : FastSave → AppendFault → Type 0
IsAppendFault save Sixteenth = save.fib.quick_saves ≡ 15
IsAppendFault save (TooLarge sectors) = NeedsTooMany save sectors
IsAppendFault save Memory = Unit {0}
