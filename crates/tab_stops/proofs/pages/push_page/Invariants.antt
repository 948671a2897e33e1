use Rattle.tab_stops.specs.Lists.{AreJoinedStops, PushesStops}
use Rattle.tab_stops.specs.Pages.{AreRunStops}
use Rattle.tab_stops.proofs.pages.push_page.Given as goal

-- the first runs were gone through
abbrev pub invariant-loop-run : goal.invariant-loop-run
invariant-loop-run l =
    PushesStops (AreJoinedStops (AreRunStops l.page l.at) l.run) l.fn.places.items l.places.items
