use Rattle.std.proofs.Common.{[]}
use Rattle.tab_stops.specs.Lists.{AreJoinedStops, PushesStops}
use Rattle.tab_stops.specs.Pages.{AreStopsAt}
use Rattle.tab_stops.proofs.pages.page_stops.Given as goal

-- the first pages were gone through
abbrev pub invariant-loop-number : goal.invariant-loop-number
invariant-loop-number l =
    PushesStops (AreJoinedStops
    (AreStopsAt (record { characters = l.characters; paragraphs = l.paragraphs }) l.wd) l.number) [] l.places.items
