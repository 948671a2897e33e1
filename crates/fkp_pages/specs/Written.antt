-- [MS-DOC] Chpx, PapxInFkp: what is written for a run.
-- Profile: nothing is written for a run without properties, whose style is 0 if it is a paragraph.
use Rattle.std.specs.Prelude.{ℕ, Bool, ◌==◌, ◌&&◌, if◌then◌else◌, List, [], length}
use Rattle.std.specs.FinMap.{entries}
use Rattle.fkp_pages.specs.declared.kind.PageKind.{PageKind}
use Rattle.fkp_pages.specs.declared.kind.PageKind.TheVariants.{Chpx, Papx}
use Rattle.fkp_pages.specs.declared.lists.Run.{Run}
use Rattle.fkp_pages.specs.Fkp.{spelled_list}
use Rattle.fkp_pages.specs.Runs.{run_list}

-- whether the run has no properties, and a paragraph the style 0
abbrev pub is_bare_run : PageKind → Run → Bool
is_bare_run Chpx run = length (entries run.map) == 0
is_bare_run Papx run = (run.istd == 0) && (length (entries run.map) == 0)

-- the bytes that are written for a run
unfoldable pub run_bytes_written : PageKind → Run → List ℕ
run_bytes_written kind run = if is_bare_run kind run then [] else spelled_list kind (run_list kind run)
