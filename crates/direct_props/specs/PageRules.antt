-- The rules on the pages of characters, 39 to 43, and of paragraphs, 44 to 48. A place is an offset in WordDocument.
-- Each place of the text is checked for itself, and the least offset counts.
use Rattle.std.specs.Prelude.{◌≡◌, ◌⊎◌, ℕ, ◌+◌, ◌*◌, ◌<◌, ◌≤◌, List, length, slice_index, slice_range}
use Rattle.doc_bits.specs.Rules.{Rules, rule, ◌then◌, Among, From, Nowhere}
use Rattle.sprm_table.specs.Sprm.{HasSprmFaultAt}
use Rattle.fkp_pages.specs.declared.kind.PageKind.{PageKind}
use Rattle.fkp_pages.specs.declared.kind.PageKind.TheVariants.{Chpx, Papx}
use Rattle.fkp_pages.specs.declared.kind.RunAnswer.{RunAnswer}
use Rattle.fkp_pages.specs.declared.kind.RunAnswer.TheVariants.{Found, NoRun, BadCount, Leaves}
use Rattle.fkp_pages.specs.Fkp.{HasRunAnswer, least_list}
use Rattle.fkp_pages.specs.Bin.{IsBinPage, HasNoBin, page_at}
use Rattle.fkp_pages.specs.Runs.{run_groups}
use Rattle.direct_props.specs.declared.rules.PageRule.{PageRule}
use Rattle.direct_props.specs.declared.rules.PageRule.TheVariants as breaks

-- no range of the bin table holds the place
pub record HasNoPage (bin : List ℕ) (fc place : ℕ) : Type 0 where
  pub here : place ≡ fc
  pub none : HasNoBin bin fc

-- the page of the place
pub record HasPageAnswer (kind : PageKind) (wd bin : List ℕ) (fc number : ℕ) (answer : RunAnswer) : Type 0 where
  pub page : IsBinPage bin fc number
  pub answers : HasRunAnswer kind (page_at wd number) fc answer

-- Profile: no page lies over the FIB. A page that is not in WordDocument, or whose last byte is no number of runs
abbrev pub IsBadPage : PageKind → List ℕ → ℕ → ℕ → Type 0
IsBadPage kind wd fc number =
    (number < 2) ⊎ ((length wd < 512 * number + 512) ⊎ HasRunAnswer kind (page_at wd number) fc BadCount)

-- the same by what the page has answered
abbrev pub LooksBad : List ℕ → ℕ → RunAnswer → Type 0
LooksBad wd number answer = (number < 2) ⊎ ((length wd < 512 * number + 512) ⊎ (answer ≡ BadCount))

-- the page of the place is bad, at its last byte
pub record HasBadPage (kind : PageKind) (wd bin : List ℕ) (fc place : ℕ) : Type 0 where
  pub number : ℕ
  pub page : IsBinPage bin fc number
  pub here : place ≡ 512 * number + 511
  pub bad : IsBadPage kind wd fc number

-- no run of the page holds the place
pub record IsInNoRun (kind : PageKind) (wd bin : List ℕ) (fc place : ℕ) : Type 0 where
  pub number : ℕ
  pub answer : HasPageAnswer kind wd bin fc number NoRun
  pub here : place ≡ fc

-- the list of the run is not in the page, at its entry
pub record HasListOutside (kind : PageKind) (wd bin : List ℕ) (fc place : ℕ) : Type 0 where
  pub number : ℕ
  pub entry : ℕ
  pub answer : HasPageAnswer kind wd bin fc number (Leaves entry)
  pub here : place ≡ 512 * number + entry

-- the sprms of the list, behind a paragraph's style number, have a fault there
pub record HasPageListFault (kind : PageKind) (wd bin : List ℕ) (fc place : ℕ) : Type 0 where
  pub number : ℕ
  pub from : ℕ
  pub to : ℕ
  pub answer : HasPageAnswer kind wd bin fc number (Found from to)
  pub fault :
      From (512 * number + from + least_list kind)
      (HasSprmFaultAt (slice_range (page_at wd number) (from + least_list kind) to) (run_groups kind)) place

-- a list that a page in the stream can have
pub record HasListRoom (kind : PageKind) (wd : List ℕ) (number from to : ℕ) : Type 0 where
  pub there : 512 * number + 512 ≤ length wd
  pub room : from + least_list kind ≤ to
  pub within : to ≤ 511

-- what a place breaks
abbrev pub BreaksPageRule : PageRule → PageKind → List ℕ → List ℕ → ℕ → ℕ → Type 0
BreaksPageRule breaks.Bin kind wd bin fc place = HasNoPage bin fc place
BreaksPageRule breaks.Page kind wd bin fc place = HasBadPage kind wd bin fc place
BreaksPageRule breaks.Run kind wd bin fc place = IsInNoRun kind wd bin fc place
BreaksPageRule breaks.List kind wd bin fc place = HasListOutside kind wd bin fc place
BreaksPageRule breaks.Sprm kind wd bin fc place = HasPageListFault kind wd bin fc place

-- one of the places breaks the rule
abbrev pub BreaksAtPlaces : PageRule → PageKind → List ℕ → List ℕ → List ℕ → ℕ → Type 0
BreaksAtPlaces page_rule kind wd bin places = Among (length places) (λ k. BreaksPageRule page_rule kind wd bin
    (slice_index places k))

-- the number of the first of the five rules
abbrev pub first_rule : PageKind → ℕ
first_rule Chpx = 39
first_rule Papx = 44

-- the rules on the pages of these places
abbrev pub page_rules : PageKind → List ℕ → List ℕ → List ℕ → Rules ℕ
page_rules kind wd bin places =
    rule (first_rule kind) (BreaksAtPlaces breaks.Bin kind wd bin places)
    then rule (first_rule kind + 1) (BreaksAtPlaces breaks.Page kind wd bin places)
    then rule (first_rule kind + 2) (BreaksAtPlaces breaks.Run kind wd bin places)
    then rule (first_rule kind + 3) (BreaksAtPlaces breaks.List kind wd bin places)
    then rule (first_rule kind + 4) (BreaksAtPlaces breaks.Sprm kind wd bin places)

-- a place that breaks none of the five
abbrev pub IsValidPlace : PageKind → List ℕ → List ℕ → ℕ → Type 0
IsValidPlace kind wd bin fc = (page_rule : PageRule) → Nowhere (BreaksPageRule page_rule kind wd bin fc)

-- the places from the first to the last break none
abbrev pub IsValidBetween : PageKind → List ℕ → List ℕ → ℕ → ℕ → Type 0
IsValidBetween kind wd bin first last = (fc : ℕ) → first ≤ fc → fc ≤ last → IsValidPlace kind wd bin fc

-- each of the places breaks none
abbrev pub AreValidPlaces : PageKind → List ℕ → List ℕ → List ℕ → Type 0
AreValidPlaces kind wd bin places = (k : ℕ) → k < length places → IsValidPlace kind wd bin (slice_index places k)
