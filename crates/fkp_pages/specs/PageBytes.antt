-- [MS-DOC] ChpxFkp, PapxFkp: the 512 bytes of a page, as its runs give them.
-- Profile: what is written for a run is at the greatest even offset that leaves room for it below that of the
-- earlier runs.
use Rattle.std.specs.Prelude.{ℕ, ◌+◌, ◌-◌, ◌*◌, ◌/◌, ◌≤◌, List, [], ◌∷◌, ◌++◌, length, map, replicate, slice_index}
use Rattle.std.specs.List.{flat_map}
use Rattle.doc_bits.specs.Number.{number_bytes}
use Rattle.fkp_pages.specs.declared.kind.PageKind.{PageKind}
use Rattle.fkp_pages.specs.declared.lists.Run.{Run}
use Rattle.fkp_pages.specs.Fkp.{run_entry_size, most_runs}
use Rattle.fkp_pages.specs.Written.{run_bytes_written}

-- so many zeros
abbrev pub zeros : ℕ → List ℕ
zeros count = replicate count 0

-- the limit after a run for which these bytes are written: their offset, or the limit as it was where there are none
abbrev pub lowered : ℕ → List ℕ → ℕ
lowered limit [] = limit
lowered limit (byte ∷ bytes) = (limit - length (byte ∷ bytes)) / 2 * 2

-- the limit after some runs
unfoldable pub limit_after : PageKind → ℕ → List Run → ℕ
limit_after kind limit [] = limit
limit_after kind limit (run ∷ runs) = limit_after kind (lowered limit (run_bytes_written kind run)) runs

-- where the limit begins: the last byte of a page is the number of its runs
abbrev pub first_limit : ℕ
first_limit = 511

-- where the fcs and the entries of so many runs end
abbrev pub entries_end : PageKind → ℕ → ℕ
entries_end kind count = 4 * (count + 1) + run_entry_size kind * count

-- the runs fit into a page: there are not too many, and their fcs and entries end at or before the limit
pub record FitsPage (kind : PageKind) (runs : List Run) : Type 0 where
  pub room : entries_end kind (length runs) ≤ limit_after kind first_limit runs
  pub few : length runs ≤ most_runs kind

-- where the last run ends
abbrev pub last_fc : List Run → ℕ
last_fc runs = slice_index (map (λ run. run.to) runs) (length runs - 1)

-- where each run begins, and where the last one ends
abbrev pub page_fcs : List Run → List ℕ
page_fcs runs = flat_map (λ run. number_bytes 4 run.from) runs ++ number_bytes 4 (last_fc runs)

-- half the offset of the bytes that are written for a run, 0 where there are none
abbrev pub half_offset : ℕ → List ℕ → ℕ
half_offset limit [] = 0
half_offset limit (byte ∷ bytes) = lowered limit (byte ∷ bytes) / 2

-- the entries, each that byte and zeros
unfoldable pub page_entries : PageKind → ℕ → List Run → List ℕ
page_entries kind limit [] = []
page_entries kind limit (run ∷ runs) =
    (half_offset limit (run_bytes_written kind run) ∷ zeros (run_entry_size kind - 1)) ++ page_entries kind (lowered
    limit
    (run_bytes_written kind run)) runs

-- what is written, from the last run's to the first run's, each with a zero behind it where a byte stays free
unfoldable pub page_lists : PageKind → ℕ → List Run → List ℕ
page_lists kind limit [] = []
page_lists kind limit (run ∷ runs) =
    let offset = lowered limit (run_bytes_written kind run) in
    page_lists kind offset runs ++ (run_bytes_written kind run ++ zeros (limit - (offset + length (run_bytes_written
    kind run))))

-- the bytes of a page: fcs, entries, zeros, what is written, the number of runs
abbrev pub page_bytes : PageKind → List Run → List ℕ
page_bytes kind runs =
    let free = limit_after kind first_limit runs - entries_end kind (length runs) in
    page_fcs runs ++ (page_entries kind first_limit runs ++ (zeros free ++ (page_lists kind first_limit runs ++ length
    runs ∷ [])))
