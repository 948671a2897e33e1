use Rattle.std.proofs.Common.{arith}
use Rattle.fkp_pages.specs.Bin.{page_at}
use Rattle.direct_props.proofs.pages.PageCursor.start.Goals as goal

pub returns : goal.returns
returns c = λ wd bin. record {
  named = λ fc low high. absurd (omega arith);
  small = omega arith;
  runs = c.start.ensures.cursor (page_at wd 0);
}
