-- What the definitions imply.
use Rattle.std.specs.Prelude.{◌≡◌, ℕ, ◌+◌, ◌≤◌, List, length, slice_range}
use Rattle.fkp_pages.specs.declared.kind.PageKind.{PageKind}
use Rattle.fkp_pages.specs.declared.kind.RunAnswer.{RunAnswer}
use Rattle.fkp_pages.specs.Fkp.{least_list, list_from, list_to, IsListWithin, spelled_list, HasRunAnswer}
use Rattle.fkp_pages.specs.Bin.{IsBinTable, IsBinPage}

-- a page has one answer at a place
abbrev pub RunAnswerIsOne : Type 0
RunAnswerIsOne =
    (kind : PageKind) (page : List ℕ) (fc : ℕ) (one other : RunAnswer) →
    HasRunAnswer kind page fc one → HasRunAnswer kind page fc other → one ≡ other

-- a bin table names one page at a place
abbrev pub BinPageIsOne : Type 0
BinPageIsOne = (bin : List ℕ) (fc one other : ℕ) → IsBinTable bin → IsBinPage bin fc one → IsBinPage bin fc other →
    one ≡ other

-- the list is at the place as it is spelled, before the count
pub record StandsAt (kind : PageKind) (page : List ℕ) (at : ℕ) (list : List ℕ) : Type 0 where
  pub room : least_list kind ≤ length list
  pub within : at + length (spelled_list kind list) ≤ 511
  pub spelled : slice_range page at (at + length (spelled_list kind list)) ≡ spelled_list kind list

-- the list that is read at the place
pub record IsListReadAt (kind : PageKind) (page : List ℕ) (at : ℕ) (list : List ℕ) : Type 0 where
  pub within : IsListWithin kind page at
  pub list_is : slice_range page (list_from kind page at) (list_to kind page at) ≡ list

-- what is read at a place is there as it is spelled
abbrev pub ListIsSpelled : Type 0
ListIsSpelled =
    (kind : PageKind) (page : List ℕ) (at : ℕ) (list : List ℕ) →
    length page ≡ 512 → IsListReadAt kind page at list → StandsAt kind page at list

-- what is at a place as it is spelled is read there
abbrev pub SpelledListIsRead : Type 0
SpelledListIsRead =
    (kind : PageKind) (page : List ℕ) (at : ℕ) (list : List ℕ) →
    length page ≡ 512 → StandsAt kind page at list → IsListReadAt kind page at list
