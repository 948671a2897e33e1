-- [MS-DOC] ChpxFkp, PapxFkp: a page of 512 bytes has the properties of runs of byte places.
-- The fcs of a page need not ascend: of several runs that hold a place the first counts.
use Rattle.std.specs.Prelude.{◌≡◌, ◌≢◌, ℕ, ◌+◌, ◌*◌, ◌/◌, ◌%◌, ◌<◌, ◌≤◌, ◌==◌, if◌then◌else◌, List, ◌∷◌, length}
use Rattle.std.specs.Prelude.{slice_index}
use Rattle.doc_bits.specs.Number.{u32_at}
use Rattle.fkp_pages.specs.declared.kind.PageKind.{PageKind}
use Rattle.fkp_pages.specs.declared.kind.PageKind.TheVariants.{Chpx, Papx}
use Rattle.fkp_pages.specs.declared.kind.RunAnswer.{RunAnswer}
use Rattle.fkp_pages.specs.declared.kind.RunAnswer.TheVariants.{Found, Empty, NoRun, BadCount, Leaves}

-- [MS-DOC] rgb, rgbx: the bytes of an entry; the first one is half the offset of the properties
abbrev pub run_entry_size : PageKind → ℕ
run_entry_size Chpx = 1
run_entry_size Papx = 13

-- the greatest number of runs
abbrev pub most_runs : PageKind → ℕ
most_runs Chpx = 101
most_runs Papx = 29

-- the fewest bytes of a list: that of a paragraph begins with a style number
abbrev pub least_list : PageKind → ℕ
least_list Chpx = 0
least_list Papx = 2

-- [MS-DOC] crun, cpara: the number of runs is the last byte
abbrev pub page_run_count : List ℕ → ℕ
page_run_count page = slice_index page 511

-- the last byte is a number of runs
pub record HasRunCount (kind : PageKind) (page : List ℕ) : Type 0 where
  pub some : 1 ≤ page_run_count page
  pub most : page_run_count page ≤ most_runs kind

-- [MS-DOC] rgfc: where a run begins; there is one more of them than of runs
abbrev pub page_fc : List ℕ → ℕ → ℕ
page_fc page j = u32_at page (4 * j)

-- a run reaches from its fc to before the next one
pub record HoldsFc (page : List ℕ) (run fc : ℕ) : Type 0 where
  pub from : page_fc page run ≤ fc
  pub to : fc < page_fc page (run + 1)

-- the first run that holds the place
pub record IsFirstRun (page : List ℕ) (fc run : ℕ) : Type 0 where
  pub below : run < page_run_count page
  pub holds : HoldsFc page run fc
  pub first : (other : ℕ) → other < run → ¬ (HoldsFc page other fc)

-- no run holds the place
abbrev pub HasNoRun : List ℕ → ℕ → Type 0
HasNoRun page fc = (run : ℕ) → run < page_run_count page → ¬ (HoldsFc page run fc)

-- where the entry of a run is, behind the fcs
abbrev pub run_entry_place : PageKind → List ℕ → ℕ → ℕ
run_entry_place kind page run = 4 * (page_run_count page + 1) + run_entry_size kind * run

-- [MS-DOC] bOffset: half the offset of the run's properties; 0 where it has none
abbrev pub entry_byte : PageKind → List ℕ → ℕ → ℕ
entry_byte kind page run = slice_index page (run_entry_place kind page run)

-- [MS-DOC] Chpx: cb, and so many bytes. PapxInFkp: cb that is not 0, and 2 cb - 1 bytes; or 0, cb', and 2 cb' bytes.
-- These bytes are the list: grpprl, or for a paragraph GrpPrlAndIstd, which begins with the style number

-- where the list begins whose properties are at the place
abbrev pub list_from : PageKind → List ℕ → ℕ → ℕ
list_from Chpx page at = at + 1
list_from Papx page at = if slice_index page at == 0 then at + 2 else at + 1

-- where it ends
abbrev pub list_to : PageKind → List ℕ → ℕ → ℕ
list_to Chpx page at = at + 1 + slice_index page at
list_to Papx page at =
    if slice_index page at == 0 then at + 2 + 2 * slice_index page (at + 1) else at + 2 * slice_index page at

-- the list ends before the count, which is at 511, and has room for a paragraph's style number
pub record IsListWithin (kind : PageKind) (page : List ℕ) (at : ℕ) : Type 0 where
  pub room : list_from kind page at + least_list kind ≤ list_to kind page at
  pub within : list_to kind page at ≤ 511

-- the same list, said by what is written: these bytes are at the place
abbrev pub spelled_list : PageKind → List ℕ → List ℕ
spelled_list Chpx list = length list ∷ list
spelled_list Papx list = if length list % 2 == 1 then (length list + 1) / 2 ∷ list else 0 ∷ (length list / 2 ∷ list)

-- the list of a run, in the page
pub record IsListOf (kind : PageKind) (page : List ℕ) (run from to : ℕ) : Type 0 where
  pub some : entry_byte kind page run ≢ 0
  pub starts : from ≡ list_from kind page (2 * entry_byte kind page run)
  pub ends : to ≡ list_to kind page (2 * entry_byte kind page run)
  pub within : IsListWithin kind page (2 * entry_byte kind page run)

-- the list of a run is not in the page
pub record LeavesPage (kind : PageKind) (page : List ℕ) (run entry : ℕ) : Type 0 where
  pub some : entry_byte kind page run ≢ 0
  pub here : entry ≡ run_entry_place kind page run
  pub beyond : ¬ (IsListWithin kind page (2 * entry_byte kind page run))

-- what a run answers
abbrev pub IsAnswerOf : PageKind → List ℕ → ℕ → RunAnswer → Type 0
IsAnswerOf kind page run (Found from to) = IsListOf kind page run from to
IsAnswerOf kind page run Empty = entry_byte kind page run ≡ 0
IsAnswerOf kind page run NoRun = ⊥
IsAnswerOf kind page run BadCount = ⊥
IsAnswerOf kind page run (Leaves entry) = LeavesPage kind page run entry

-- the first run that holds the place answers so
pub record HasAnswerOfRun (kind : PageKind) (page : List ℕ) (fc : ℕ) (answer : RunAnswer) : Type 0 where
  pub run : ℕ
  pub first : IsFirstRun page fc run
  pub answers : IsAnswerOf kind page run answer

-- what a page answers at a place: whether its count is one, then whether a run holds the place, then what that run
-- answers
abbrev pub HasRunAnswer : PageKind → List ℕ → ℕ → RunAnswer → Type 0
HasRunAnswer kind page fc (Found from to) = HasRunCount kind page × HasAnswerOfRun kind page fc (Found from to)
HasRunAnswer kind page fc Empty = HasRunCount kind page × HasAnswerOfRun kind page fc Empty
HasRunAnswer kind page fc NoRun = HasRunCount kind page × HasNoRun page fc
HasRunAnswer kind page fc BadCount = ¬ (HasRunCount kind page)
HasRunAnswer kind page fc (Leaves entry) = HasRunCount kind page × HasAnswerOfRun kind page fc (Leaves entry)
