-- The byte places of `WordDocument` to which no run gives properties: no range of the bin table holds the place, or no
-- run of its page, or the PapxInFkp of its run has no bytes. A page that is bad, or a list that leaves its page, makes no
-- gap.
use Rattle.std.specs.Prelude.{◌≡◌, ◌⊎◌, ℕ, ◌+◌, ◌*◌, ◌<◌, ◌≤◌, List, length, slice_index, ⊤}
use Rattle.fkp_pages.specs.declared.kind.PageKind.{PageKind}
use Rattle.fkp_pages.specs.declared.kind.PageKind.TheVariants.{Chpx, Papx}
use Rattle.fkp_pages.specs.declared.kind.RunAnswer.{RunAnswer}
use Rattle.fkp_pages.specs.declared.kind.RunAnswer.TheVariants.{Found, Empty, NoRun, BadCount, Leaves}
use Rattle.fkp_pages.specs.Fkp.{HasRunAnswer}
use Rattle.fkp_pages.specs.Bin.{bin_count, page_number, IsBinPage, HasNoBin, page_at}

-- [MS-DOC] PapxInFkp: cb and cb' are 0, so not even a style number follows. The byte at the entry is half the offset
pub record IsEmptyPapx (page : List ℕ) (entry : ℕ) : Type 0 where
  pub cb : slice_index page (2 * slice_index page entry) ≡ 0
  pub words : slice_index page (2 * slice_index page entry + 1) ≡ 0

-- a run without a list that its page can have: such a PapxInFkp
abbrev pub IsEmptyRun : PageKind → List ℕ → ℕ → Type 0
IsEmptyRun Chpx page entry = ⊥
IsEmptyRun Papx page entry = IsEmptyPapx page entry

-- the page answers that the place has no run, or such a one
abbrev pub IsGapAnswer : PageKind → List ℕ → RunAnswer → Type 0
IsGapAnswer kind page (Found from to) = ⊥
IsGapAnswer kind page Empty = ⊥
IsGapAnswer kind page NoRun = ⊤
IsGapAnswer kind page BadCount = ⊥
IsGapAnswer kind page (Leaves entry) = IsEmptyRun kind page entry

-- so does the page of the place. Profile: no page lies over the FIB
pub record HasGapIn (kind : PageKind) (bin wd : List ℕ) (fc : ℕ) : Type 0 where
  pub number : ℕ
  pub named : IsBinPage bin fc number
  pub low : 2 ≤ number
  pub within : 512 * number + 512 ≤ length wd
  pub answer : RunAnswer
  pub answers : HasRunAnswer kind (page_at wd number) fc answer
  pub gap : IsGapAnswer kind (page_at wd number) answer

abbrev pub IsGap : PageKind → List ℕ → List ℕ → ℕ → Type 0
IsGap kind bin wd fc = HasNoBin bin fc ⊎ HasGapIn kind bin wd fc

-- each range of the table names a page of the stream that does not lie over the FIB
abbrev pub ArePagesWithin : List ℕ → List ℕ → Type 0
ArePagesWithin bin wd =
    (k : ℕ) → k < bin_count bin → (2 ≤ page_number bin k) × (512 * page_number bin k + 512 ≤ length wd)
