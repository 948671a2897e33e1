-- What a copy answers at a byte place, and what it means.
use Rattle.std.specs.Prelude.{◌≡◌, ◌⊎◌, ◌↔◌, ℕ, ◌≤◌, List, length, take, drop}
use Rattle.prop_map.specs.declared.acting.Acted.{Acted}
use Rattle.prop_map.specs.Settings.{Properties}
use Rattle.prop_map.specs.Acting.{IsActedBy}
use Rattle.prl_skips.specs.Skips.{HoldsNoPictures}
use Rattle.fkp_pages.specs.declared.kind.PageKind.{PageKind}
use Rattle.fkp_pages.specs.declared.kind.RunAnswer.{RunAnswer}
use Rattle.fkp_pages.specs.Fkp.{HasRunAnswer, least_list}
use Rattle.fkp_pages.specs.Properties.{IsListAnswered, HasListAt}
use Rattle.page_copies.specs.Places.{HasListsApart}
use Rattle.page_copies.specs.Copies.{SkipsList, IsCopyOf}
use Rattle.page_copies.specs.Pages.{BinTables, bin_table_of, SkipsPages}

-- the page answers so at the place, and its list is the other one with the codes skipped that are not read
pub record HasSkippedAnswer (kind : PageKind) (page : List ℕ) (fc : ℕ) (answer : RunAnswer) (list : List ℕ) : Type 0
  where
    pub answers : HasRunAnswer kind page fc answer
    pub made : List ℕ
    pub answered : IsListAnswered kind page answer made
    pub skips : SkipsList kind list made

-- where a page has a list, the copy has that list, skipped
abbrev pub CopiesAnswer : Type 0
CopiesAnswer = (kind : PageKind) (old new : List ℕ) (fc : ℕ) (answer : RunAnswer) (list : List ℕ) →
    length old ≡ 512 → IsCopyOf kind old new → HasRunAnswer kind old fc answer → IsListAnswered kind old answer list →
    HasSkippedAnswer kind new fc answer list

-- the page has a list at the place that is this one once its codes are skipped
pub record HasAnswerBefore (kind : PageKind) (page : List ℕ) (fc : ℕ) (made : List ℕ) : Type 0 where
  pub answer : RunAnswer
  pub answers : HasRunAnswer kind page fc answer
  pub list : List ℕ
  pub answered : IsListAnswered kind page answer list
  pub skips : SkipsList kind list made

-- and it has no other lists
abbrev pub CopiesAnswerAlone : Type 0
CopiesAnswerAlone = (kind : PageKind) (old new : List ℕ) (fc : ℕ) (answer : RunAnswer) (made : List ℕ) →
    HasListsApart kind old → IsCopyOf kind old new → HasRunAnswer kind new fc answer →
    IsListAnswered kind new answer made → HasAnswerBefore kind old fc made

-- the list of a copy: with its codes skipped, or as it is where those of its page cannot be
abbrev pub IsListCopy : PageKind → List ℕ → List ℕ → Type 0
IsListCopy kind old new = SkipsList kind old new ⊎ (new ≡ old)

-- its style number is that of the list, and its sprms do what those of the list do
pub record ActsTheSame (kind : PageKind) (old new : List ℕ) : Type 0 where
  pub istd : take (least_list kind) new ≡ take (least_list kind) old
  pub acts : (groups : ℕ) (before : Properties) (acted : Acted) → HoldsNoPictures groups →
      (IsActedBy (drop (least_list kind) new) groups before acted
      ↔ IsActedBy (drop (least_list kind) old) groups before acted)

abbrev pub ListCopiesActTheSame : Type 0
ListCopiesActTheSame = (kind : PageKind) (old new : List ℕ) → IsListCopy kind old new → ActsTheSame kind old new

-- a list whose copy is this one is at the place, in a page that does not lie over the FIB
pub record HasListBefore (kind : PageKind) (bin wd : List ℕ) (fc : ℕ) (made : List ℕ) : Type 0 where
  pub list : List ℕ
  pub has : HasListAt kind bin wd fc list
  pub low : 2 ≤ has.number
  pub copy : IsListCopy kind list made

-- where a stream with skipped pages has a list, the stream has the list that was skipped, or the same one
abbrev pub SkippedPagesKeepLists : Type 0
SkippedPagesKeepLists = (kind : PageKind) (bins : BinTables) (old new : List ℕ) (fc : ℕ) (made : List ℕ) →
    SkipsPages bins old new → (has : HasListAt kind (bin_table_of kind bins) new fc made) → 2 ≤ has.number →
    HasListBefore kind (bin_table_of kind bins) old fc made

-- the pages of a stream are skipped in one way
abbrev pub PagesAreSkippedAlone : Type 0
PagesAreSkippedAlone = (bins : BinTables) (old one other : List ℕ) → SkipsPages bins old one →
    SkipsPages bins old other → one ≡ other
