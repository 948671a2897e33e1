use Rattle.std.specs.Prelude.{slice_range}
use Rattle.std.proofs.Common.{◌<◌, ℕ}
use Rattle.fkp_pages.specs.declared.kind.PageKind.TheVariants.{Chpx}
use Rattle.fkp_pages.specs.Fkp.{IsListOf}
use Rattle.deleted_text.specs.Deletions.{SaysDeleted}
use Rattle.deleted_text.proofs.pages.says.Given as goal

-- none of the runs so far says so
abbrev pub invariant-loop-run : goal.invariant-loop-run
invariant-loop-run l =
    (run from to : ℕ) → run < l.run → IsListOf Chpx l.page run from to → ¬ SaysDeleted (slice_range l.page from to)
