use Rattle.fkp_pages.specs.Bin.{page_at}
use Rattle.direct_props.proofs.StretchLemmas.{range_at, small_page}
use Rattle.direct_props.proofs.pages.PageCursor.at.Goals as goal

pub returns-in-Some : goal.returns-in-Some
returns-in-Some c =
    let h = c.in-Some.ensures in (
      h,
      record {
        named = λ fc low high. range_at c.args.bin.now c.args.fc fc c.in-Some.range h low high;
        small = small_page c.args.bin.now c.args.fc c.in-Some.range h;
        runs = c.start.ensures.cursor (page_at c.args.wd.now c.in-Some.range.page);
      },
    )
