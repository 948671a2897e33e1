use Rattle.std.proofs.Common.{◌≤◌, ◌-◌}
use Rattle.doc_places.specs.Places.{lead}
use Rattle.doc_html.proofs.anchors.next_anchor.Given as goal

-- the bookmarks up to the number begin before the place
abbrev pub invariant-loop-number : goal.invariant-loop-number
invariant-loop-number l = l.number ≤ lead l.bookmarks l.end

abbrev pub decreases-loop-number : goal.decreases-loop-number
decreases-loop-number l = lead l.bookmarks l.end - l.number
