use Rattle.std.specs.Prelude.{slice_index}
use Rattle.std.proofs.Common.{◌≡◌, ◌<◌, ℕ}
use Rattle.fkp_pages.specs.Bin.{page_at}
use Rattle.deleted_text.specs.Places.{SaysNothing}
use Rattle.deleted_text.proofs.pages.is_silent.Given as goal

-- none of those so far says so
abbrev pub invariant-loop-number : goal.invariant-loop-number
invariant-loop-number l =
    (page : ℕ) → page < l.number → slice_index l.marks.items page ≡ 1 → SaysNothing (page_at l.wd page)
