-- The page of a place and of the places around it, and what is known of a page that was found.
use Rattle.std.specs.Prelude.{ℕ, ◌+◌, ◌*◌, ◌<◌, ◌≤◌, ◌^◌, List, length}
use Rattle.fkp_pages.specs.declared.kind.PageKind.{PageKind}
use Rattle.fkp_pages.specs.Bin.{HasBinRange, page_at}
use Rattle.fkp_pages.specs.Stretch.{IsRunCursor}
use Rattle.direct_props.specs.declared.pages.PageCursor.{PageCursor}
use Rattle.direct_props.specs.declared.pages.PageStretch.{PageStretch}
use Rattle.direct_props.specs.declared.rules.RightStretch.{RightStretch}
use Rattle.direct_props.specs.PageRules.{HasPageAnswer, IsValidBetween}

-- the range of the cursor names its page for each of its places, and the run may be tried first in that page
pub record IsPageCursor (wd bin : List ℕ) (cursor : PageCursor) : Type 0 where
  pub named : (fc : ℕ) → cursor.range.from ≤ fc → fc < cursor.range.to → HasBinRange bin fc cursor.range
  pub small : cursor.range.page < 2 ^ 22
  pub runs : IsRunCursor (page_at wd cursor.range.page) cursor.runs

-- a page of the stream that is no page over the FIB
pub record IsStreamPage (wd : List ℕ) (number : ℕ) : Type 0 where
  pub low : 2 ≤ number
  pub small : number < 2 ^ 22
  pub within : 512 * number + 512 ≤ length wd

-- the page of the stream answers so at each place from the first to the last, and the place is among them
pub record HasPageAround (kind : PageKind) (wd bin : List ℕ) (fc : ℕ) (stretch : PageStretch) : Type 0 where
  pub from : stretch.first ≤ fc
  pub to : fc ≤ stretch.last
  pub page : IsStreamPage wd stretch.number
  pub each :
      (other : ℕ) → stretch.first ≤ other → other ≤ stretch.last →
      HasPageAnswer kind wd bin other stretch.number stretch.answer
  pub next : IsPageCursor wd bin stretch.next

-- the places from the first to the last break no rule, and what is known of where they were found
pub record IsValidStretch (kind : PageKind) (wd bin : List ℕ) (stretch : RightStretch) : Type 0 where
  pub right : IsValidBetween kind wd bin stretch.first stretch.last
  pub next : IsPageCursor wd bin stretch.next
