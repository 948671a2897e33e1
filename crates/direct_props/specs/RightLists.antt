-- The positive side of the rules on pages: the page of a place is there, is no page over the FIB, and answers a right
-- list.
use Rattle.std.specs.Prelude.{ℕ, ◌+◌, ◌*◌, ◌≤◌, List, length}
use Rattle.doc_bits.specs.Rules.{Hold}
use Rattle.fkp_pages.specs.declared.kind.PageKind.{PageKind}
use Rattle.fkp_pages.specs.declared.kind.RunAnswer.{RunAnswer}
use Rattle.fkp_pages.specs.Fkp.{HasRunAnswer}
use Rattle.fkp_pages.specs.Bin.{IsBinTable, IsBinPage, page_at}
use Rattle.fkp_pages.specs.Properties.{IsListAnswered, HasListAt}
use Rattle.direct_props.specs.PageRules.{page_rules, IsValidPlace, AreValidPlaces}
use Rattle.direct_props.specs.Stretches.{HasValidList}

-- the page that the bin table names for the place answers the list, which is right
pub record HasValidListAt (kind : PageKind) (wd bin : List ℕ) (fc : ℕ) (list : List ℕ) : Type 0 where
  pub number : ℕ
  pub named : IsBinPage bin fc number
  pub low : 2 ≤ number
  pub within : 512 * number + 512 ≤ length wd
  pub answer : RunAnswer
  pub answers : HasRunAnswer kind (page_at wd number) fc answer
  pub right : HasValidList kind (page_at wd number) answer
  pub answered : IsListAnswered kind (page_at wd number) answer list

-- a bin table and a right list make a right place
abbrev pub RightListsAreValid : Type 0
RightListsAreValid =
    (kind : PageKind) (wd bin : List ℕ) (fc : ℕ) (list : List ℕ) →
    IsBinTable bin → HasValidListAt kind wd bin fc list → IsValidPlace kind wd bin fc

-- a right place that has a list has a right list
abbrev pub RightPlacesHaveLists : Type 0
RightPlacesHaveLists =
    (kind : PageKind) (wd bin : List ℕ) (fc : ℕ) (list : List ℕ) →
    IsValidPlace kind wd bin fc → HasListAt kind bin wd fc list → HasValidListAt kind wd bin fc list

-- where each place is right the rules on pages hold
abbrev pub RightPlacesHold : Type 0
RightPlacesHold =
    (kind : PageKind) (wd bin places : List ℕ) → AreValidPlaces kind wd bin places → Hold (page_rules kind wd bin
    places)
