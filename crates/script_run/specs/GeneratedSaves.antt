-- That no save of the generator is refused, by the ledgers: how far they have grown since the last full save, by the
-- fast saves since then and the edits since the last save.
use Rattle.std.specs.Prelude.{ℕ, zero, suc, ◌+◌, ◌*◌, ◌/◌, ◌≤◌}
use Rattle.cfb_layout.specs.Counts.{most_sectors}
use Rattle.edit_script.specs.declared.commands.Command.{Command}
use Rattle.edit_ops.specs.Runs.{reckoned_runs}
use Rattle.edit_generator.specs.SmallSaves.{most_full_sectors, most_bin_bytes, most_table_bytes}
use Rattle.fast_save.specs.declared.ledgers.Counts.{Counts}
use Rattle.fast_save.specs.Ledgers.{after_edit, after_fast, sections_set, sector_bound, most_pieces_added}
use Rattle.fast_save.specs.Fast.{most_pieces}

-- the sectors within which the file stays, after so many fast saves with fifty edits before each: each fast save
-- is reckoned with 24 units and 3 runs an edit, and 800 bytes a piece
unfoldable pub sectors_within : ℕ → ℕ
sectors_within zero = most_full_sectors
sectors_within (suc fast) =
    sectors_within fast
    + (2400 + 528 * 150 + 800 * (1 + 200 * (fast + 1)) + most_table_bytes + (most_bin_bytes + 2656 * fast) + 16384
    + 499)
    / 500
    + 8

-- the ledgers after so many fast saves since the last full one, and so many edits since the last save
pub record HasGrown (fast edits : ℕ) (counts : Counts) : Type 0 where
  pub pieces : counts.pieces ≤ 1 + 200 * fast + 4 * edits
  pub sectors : counts.sectors ≤ sectors_within fast
  pub bins : counts.bin_bytes ≤ most_bin_bytes + 2656 * fast
  pub units : counts.units ≤ 24 * edits
  pub sections : counts.sections ≤ 0
  pub runs : counts.runs ≤ 3 * edits

-- an edit of the size of those that are generated
pub record IsSmallEdit (command : Command) (added : ℕ) : Type 0 where
  pub units : added ≤ 24
  pub sections : sections_set command ≤ 0
  pub runs : reckoned_runs command ≤ 3

-- a fast save of such ledgers is not refused
pub record FitsFast (counts : Counts) (table_bytes : ℕ) : Type 0 where
  pub pieces : counts.pieces + most_pieces_added ≤ most_pieces
  pub sectors : sector_bound counts table_bytes ≤ most_sectors

-- the ledgers grow so by an edit and by a fast save, and the first seven fast saves behind a full one are not refused
pub record GeneratedSavesAreSmall : Type 0 where
  pub edit :
      (fast edits units : ℕ) (counts : Counts) (command : Command) →
      HasGrown fast edits counts → IsSmallEdit command units →
      HasGrown fast (edits + 1) (after_edit command units counts)
  pub fast :
      (fast edits table_bytes : ℕ) (counts : Counts) →
      HasGrown fast edits counts → edits ≤ 50 → table_bytes ≤ most_table_bytes →
      HasGrown (fast + 1) 0 (after_fast (sector_bound counts table_bytes) counts)
  pub fits :
      (fast edits table_bytes : ℕ) (counts : Counts) →
      HasGrown fast edits counts → edits ≤ 50 → table_bytes ≤ most_table_bytes → fast ≤ 6 →
      FitsFast counts table_bytes
