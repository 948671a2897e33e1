use Rattle.std.proofs.Common.{◌≡◌, ◌≤◌, ◌-◌}
use Rattle.form_page.specs.Forms.{PutsPlaces}
use Rattle.doc_places.specs.Places.{anchor_places, lead, consecutive}
use Rattle.doc_html.proofs.anchors.write_anchors.Given as goal

-- the anchors up to the number were written
abbrev pub invariant-loop-writer : goal.invariant-loop-writer
invariant-loop-writer g l = record {
  low : l.next ≤ l.number;
  high : l.number ≤ lead l.bookmarks l.end;
  path : l.writer.path ≡ l.fn.writer.path;
  puts : PutsPlaces g.K.Sink l.fn.out l.fn.writer.page l.out l.writer.page
      (anchor_places l.fn.writer.path (consecutive l.next (l.number - l.next)));
}

abbrev pub decreases-loop-writer : goal.decreases-loop-writer
decreases-loop-writer g l = lead l.bookmarks l.end - l.number
