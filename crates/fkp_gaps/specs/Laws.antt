-- What the definitions imply.
use Rattle.std.specs.Prelude.{◌≡◌, ◌⊎◌, ℕ, List}
use Rattle.fkp_pages.specs.declared.kind.PageKind.{PageKind}
use Rattle.fkp_pages.specs.Bin.{IsBinTable}
use Rattle.fkp_pages.specs.Properties.{HasListAt, bare_list}
use Rattle.fkp_gaps.specs.Gaps.{IsGap, ArePagesWithin}
use Rattle.fkp_gaps.specs.Filled.{IsFilledBin, next_page, with_empty_run}

-- a place that has a list is no gap
abbrev pub GapsHaveNoList : Type 0
GapsHaveNoList =
    (kind : PageKind) (bin wd : List ℕ) (fc : ℕ) (list : List ℕ) → IsBinTable bin → IsGap kind bin wd fc →
    HasListAt kind bin wd fc list → ⊥

-- in the stream with the page behind it a place has the list that it had, or the bare one in a gap
abbrev pub FilledPlacesHaveLists : Type 0
FilledPlacesHaveLists =
    (kind : PageKind) (bin wd new : List ℕ) (fc : ℕ) (list : List ℕ) → IsBinTable bin → ArePagesWithin bin wd →
    IsFilledBin kind bin wd (next_page wd) new → HasListAt kind new (with_empty_run wd) fc list →
    HasListAt kind bin wd fc list ⊎ (IsGap kind bin wd fc × (list ≡ bare_list kind))

-- a table is filled in one way
abbrev pub FilledBinIsOne : Type 0
FilledBinIsOne =
    (kind : PageKind) (bin wd : List ℕ) (number : ℕ) (one other : List ℕ) → IsBinTable bin →
    IsFilledBin kind bin wd number one → IsFilledBin kind bin wd number other → one ≡ other
