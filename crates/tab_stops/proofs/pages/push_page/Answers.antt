use Rattle.tab_stops.specs.Pages.{AreRunStops}
use Rattle.tab_stops.proofs.ListLemmas.{joined_none, joined_more}
use Rattle.tab_stops.proofs.pages.push_page.Goals as goal

pub loop-run-init : goal.loop-run-init
loop-run-init c = joined_none (AreRunStops c.args.page.now c.args.at) c.args.places.now.items

pub loop-run-preserved : goal.loop-run-preserved
loop-run-preserved c =
    joined_more (AreRunStops c.args.page.now c.args.at) c.loop-run.run c.args.places.now.items
    c.loop-run.places.items c.push_run.new.places.items c.loop-run.invariant c.in_ok-push_run.ensures
