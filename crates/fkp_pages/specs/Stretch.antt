-- Places around a place at which a page answers the same, and runs that may be tried first.
use Rattle.std.specs.Prelude.{ℕ, ◌<◌, ◌≤◌, List, MatchOption}
use Rattle.fkp_pages.specs.declared.kind.PageKind.{PageKind}
use Rattle.fkp_pages.specs.declared.kind.RunAnswer.{RunAnswer}
use Rattle.fkp_pages.specs.declared.reading.Stretch.{Stretch}
use Rattle.fkp_pages.specs.declared.runs.RunCursor.{RunCursor}
use Rattle.fkp_pages.specs.declared.runs.FoundRun.{FoundRun}
use Rattle.fkp_pages.specs.Fkp.{page_run_count, HoldsFc, IsFirstRun, HasNoRun, HasRunAnswer}

-- the places from `first` to `last`: this place is among them, and what the page answers at it, it answers at each
pub record IsStretch (kind : PageKind) (page : List ℕ) (fc first last : ℕ) : Type 0 where
  pub from : first ≤ fc
  pub to : fc ≤ last
  pub same :
      (answer : RunAnswer) (other : ℕ) → HasRunAnswer kind page fc answer → first ≤ other → other ≤ last →
      HasRunAnswer kind page other answer

-- the page answers so at each place of the stretch
pub record HasStretch (kind : PageKind) (page : List ℕ) (fc : ℕ) (stretch : Stretch) : Type 0 where
  pub around : IsStretch kind page fc stretch.first stretch.last
  pub answers : (other : ℕ) → stretch.first ≤ other → other ≤ stretch.last → HasRunAnswer kind page other stretch.answer

-- no run before that of the cursor holds one of the cursor's places
pub record IsRunCursor (page : List ℕ) (cursor : RunCursor) : Type 0 where
  pub within : cursor.run ≤ page_run_count page
  pub passed : (run fc : ℕ) → run < cursor.run → cursor.least ≤ fc → ¬ (HoldsFc page run fc)

-- the places from the first to the last have this first run, or none, and the place is among them
pub record IsFoundRun (page : List ℕ) (fc : ℕ) (found : FoundRun) : Type 0 where
  pub from : found.first ≤ fc
  pub to : fc ≤ found.last
  pub each :
      (other : ℕ) → found.first ≤ other → other ≤ found.last →
      MatchOption found.run (HasNoRun page other) (IsFirstRun page other)
  pub next : IsRunCursor page found.next
