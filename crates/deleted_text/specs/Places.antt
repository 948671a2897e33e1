-- Byte places of WordDocument whose text a reviser deleted: the list that their page has for them says so. What the
-- modifier of a piece says is not looked at.
use Rattle.std.specs.Prelude.{◌≡◌, ◌↔◌, ℕ, ◌<◌, ◌≤◌, Bool, false, IsTrue, List, length, ⊤}
use Rattle.std.specs.Prelude.{slice_index, slice_index_or, slice_range}
use Rattle.fkp_pages.specs.declared.kind.PageKind.TheVariants.{Chpx}
use Rattle.fkp_pages.specs.declared.kind.RunAnswer.{RunAnswer}
use Rattle.fkp_pages.specs.declared.kind.RunAnswer.TheVariants.{Found, Empty, NoRun, BadCount, Leaves}
use Rattle.fkp_pages.specs.Fkp.{page_run_count, HasRunCount, IsListOf}
use Rattle.fkp_pages.specs.Properties.{HasListAt}
use Rattle.deleted_text.specs.declared.places.Around.{Around}
use Rattle.deleted_text.specs.Deletions.{SaysDeleted}

-- [MS-DOC] Chpx: the list of the characters at the place
pub record IsDeletedAt (wd bin : List ℕ) (fc : ℕ) : Type 0 where
  pub list : List ℕ
  pub has : HasListAt Chpx bin wd fc list
  pub says : SaysDeleted list

-- of each of these places, whether it is one
pub record AreDeletions (wd bin places : List ℕ) (flags : List Bool) : Type 0 where
  pub len : length flags ≡ length places
  pub each :
      (k : ℕ) → k < length flags → (IsTrue (slice_index_or flags k false) ↔ IsDeletedAt wd bin (slice_index places k))

-- each place from the first to the last is one, or none is
abbrev pub IsAround : List ℕ → List ℕ → Around → Type 0
IsAround wd bin around =
    (fc : ℕ) → around.first ≤ fc → fc ≤ around.last → (IsTrue around.deleted ↔ IsDeletedAt wd bin fc)

-- no run of the page has a list that says so
abbrev pub SaysNothing : List ℕ → Type 0
SaysNothing page =
    HasRunCount Chpx page → (run from to : ℕ) → run < page_run_count page → IsListOf Chpx page run from to →
    ¬ SaysDeleted (slice_range page from to)

-- the range of an answer is in the page
abbrev pub IsInPage : List ℕ → RunAnswer → Type 0
IsInPage page (Found from to) = (from ≤ to) × (to ≤ length page)
IsInPage page Empty = ⊤
IsInPage page NoRun = ⊤
IsInPage page BadCount = ⊤
IsInPage page (Leaves entry) = ⊤

-- the list that a page answers says so; the list of a run without properties does not
abbrev pub AnswersDeleted : List ℕ → RunAnswer → Type 0
AnswersDeleted page (Found from to) = SaysDeleted (slice_range page from to)
AnswersDeleted page Empty = ⊥
AnswersDeleted page NoRun = ⊥
AnswersDeleted page BadCount = ⊥
AnswersDeleted page (Leaves entry) = ⊥
