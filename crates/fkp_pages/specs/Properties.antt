-- The property list of a byte place of `WordDocument`: by the bin table to a page, by the page to the first run.
-- Each place alone: neither pages nor runs are gone through.
use Rattle.std.specs.Prelude.{◌≡◌, ℕ, ◌+◌, ◌*◌, ◌≤◌, List, [], ◌∷◌, length, slice_range}
use Rattle.fkp_pages.specs.declared.kind.PageKind.{PageKind}
use Rattle.fkp_pages.specs.declared.kind.PageKind.TheVariants.{Chpx, Papx}
use Rattle.fkp_pages.specs.declared.kind.RunAnswer.{RunAnswer}
use Rattle.fkp_pages.specs.declared.kind.RunAnswer.TheVariants.{Found, Empty, NoRun, BadCount, Leaves}
use Rattle.fkp_pages.specs.Fkp.{HasRunAnswer}
use Rattle.fkp_pages.specs.Bin.{IsBinTable, IsBinPage, page_at}

-- the list of a run without properties: no sprm, and for a paragraph the style number 0
abbrev pub bare_list : PageKind → List ℕ
bare_list Chpx = []
bare_list Papx = 0 ∷ 0 ∷ []

-- the list that a page answers, if it answers one
abbrev pub IsListAnswered : PageKind → List ℕ → RunAnswer → List ℕ → Type 0
IsListAnswered kind page (Found from to) list = list ≡ slice_range page from to
IsListAnswered kind page Empty list = list ≡ bare_list kind
IsListAnswered kind page NoRun list = ⊥
IsListAnswered kind page BadCount list = ⊥
IsListAnswered kind page (Leaves entry) list = ⊥

-- the page that the bin table names for the place is in `WordDocument`, and answers the list
pub record HasListAt (kind : PageKind) (bin wd : List ℕ) (fc : ℕ) (list : List ℕ) : Type 0 where
  pub number : ℕ
  pub named : IsBinPage bin fc number
  pub within : 512 * number + 512 ≤ length wd
  pub answer : RunAnswer
  pub answers : HasRunAnswer kind (page_at wd number) fc answer
  pub answered : IsListAnswered kind (page_at wd number) answer list

-- a place has one list
abbrev pub ListAtIsOne : Type 0
ListAtIsOne =
    (kind : PageKind) (bin wd : List ℕ) (fc : ℕ) (one other : List ℕ) →
    IsBinTable bin → HasListAt kind bin wd fc one → HasListAt kind bin wd fc other → one ≡ other
