-- Ranges of a bin table on their way: those that are closed, and one that may go on.
use Rattle.std.specs.Prelude.{◌≡◌, ◌≢◌, ◌⊎◌, ℕ, ◌<◌, ◌≤◌, ◌^◌, List, [], ◌∷◌, ◌++◌}
use Rattle.std.specs.List.{All}
use Rattle.fkp_pages.specs.declared.lists.Bin.{Bin}
use Rattle.fkp_gaps.specs.declared.bins.PageRange.{PageRange}
use Rattle.fkp_gaps.specs.Filled.{AreRangesOf, HaveOtherPages, greatest_fc}

-- the page is right at each place of the range
pub record IsRangeFor (IsValid : ℕ → ℕ → Type 0) (range : PageRange) : Type 0 where
  pub order : range.from < range.to
  pub end : range.to ≤ greatest_fc
  pub page : range.page < 2 ^ 22
  pub right : (fc : ℕ) → range.from ≤ fc → fc < range.to → IsValid fc range.page

-- the entry of a bin table for a range
abbrev pub bin_of_range : PageRange → Bin
bin_of_range range = record { first = range.from; page = range.page }

-- the closed ranges reach to the one that is open, and no two neighbours have one page
pub record AreClosedRanges (IsValid : ℕ → ℕ → Type 0) (bins : List Bin) (open_range : PageRange) : Type 0 where
  pub ranges : AreRangesOf IsValid 0 bins open_range.from
  pub apart : HaveOtherPages (bins ++ bin_of_range open_range ∷ [])
  pub pages : All (λ bin. bin.page < 2 ^ 22) bins

-- the last range goes on with the next one, which has its page; or it is closed
pub record RangeGoesOn (old : List Bin) (last next : PageRange) (new : List Bin) (range : PageRange) : Type 0 where
  pub page : next.page ≡ last.page
  pub same : new ≡ old
  pub range_is : range ≡ (record { from = last.from; to = next.to; page = last.page })

pub record IsRangeClosed (old : List Bin) (last next : PageRange) (new : List Bin) (range : PageRange) : Type 0 where
  pub page : next.page ≢ last.page
  pub put : new ≡ old ++ bin_of_range last ∷ []
  pub range_is : range ≡ next

abbrev pub JoinsRange : List Bin → PageRange → PageRange → List Bin → PageRange → Type 0
JoinsRange old last next new range = RangeGoesOn old last next new range ⊎ IsRangeClosed old last next new range
