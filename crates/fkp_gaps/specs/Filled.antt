-- A bin table that names a page at each place, and a page of one run without properties for the places that no run
-- holds.
use Rattle.std.specs.Prelude.{◌≡◌, ◌≢◌, ◌⊎◌, ℕ, ◌+◌, ◌-◌, ◌*◌, ◌/◌, ◌^◌, ◌<◌, ◌≤◌, List, [], ◌∷◌, ◌++◌, length}
use Rattle.std.specs.Prelude.{Some, slice_get, replicate}
use Rattle.std.specs.List.{All}
use Rattle.doc_bits.specs.Number.{zeros}
use Rattle.fkp_pages.specs.declared.kind.PageKind.{PageKind}
use Rattle.fkp_pages.specs.declared.lists.Bin.{Bin}
use Rattle.fkp_pages.specs.Bin.{IsBinPage, printed_bin}
use Rattle.fkp_gaps.specs.Gaps.{IsGap}

-- the end of the last range, behind each place of a stream
abbrev pub greatest_fc : ℕ
greatest_fc = 0xFFFFFFFF

-- the page of a place: the page of this number in a gap, else its own
abbrev pub IsPageFor : PageKind → List ℕ → List ℕ → ℕ → ℕ → ℕ → Type 0
IsPageFor kind bin wd number fc page =
    (IsGap kind bin wd fc × (page ≡ number)) ⊎ ((¬ IsGap kind bin wd fc) × IsBinPage bin fc page)

-- ranges that touch, from one place to before another, and whose page is right for each of their places
abbrev pub AreRangesOf : (ℕ → ℕ → Type 0) → ℕ → List Bin → ℕ → Type 0
AreRangesOf IsValid from [] to = from ≡ to
AreRangesOf IsValid from (bin ∷ rest) to =
    (bin.first ≡ from)
    × ((next : ℕ) × ((from < next)
    × (((fc : ℕ) → from ≤ fc → fc < next → IsValid fc bin.page) × AreRangesOf IsValid next rest to)))

-- neighbours have other pages
abbrev pub HaveOtherPages : List Bin → Type 0
HaveOtherPages bins = (k : ℕ) (bin next : Bin) → slice_get bins k ≡ Some bin → slice_get bins (k + 1) ≡ Some next →
    bin.page ≢ next.page

-- the table names the right page at each place, with as few ranges as can be
pub record IsFilledBin (kind : PageKind) (bin wd : List ℕ) (number : ℕ) (new : List ℕ) : Type 0 where
  pub bins : List Bin
  pub ranges : AreRangesOf (IsPageFor kind bin wd number) 0 bins greatest_fc
  pub apart : HaveOtherPages bins
  pub numbers : All (λ bin. bin.page < 2 ^ 22) bins
  pub bytes : new ≡ printed_bin bins greatest_fc

-- [MS-DOC] ChpxFkp, PapxFkp: one run of all places, which has no properties. Both kinds spell it alike
unfoldable pub empty_run_page : List ℕ
empty_run_page = zeros 4 ++ (replicate 4 255 ++ (zeros 503 ++ 1 ∷ []))

-- the number of the first page that is behind a stream
abbrev pub next_page : List ℕ → ℕ
next_page wd = (length wd + 511) / 512

-- the stream with that page behind it
unfoldable pub with_empty_run : List ℕ → List ℕ
with_empty_run wd = wd ++ (zeros (512 * next_page wd - length wd) ++ empty_run_page)
