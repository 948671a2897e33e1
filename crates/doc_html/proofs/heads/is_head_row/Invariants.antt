use Rattle.std.proofs.Common.{◌≡◌, ◌≤◌, ◌-◌, length}
use Rattle.run_lists.specs.Places.{IsAtRunBegin}
use Rattle.doc_columns.specs.Walks.{items_in}
use Rattle.doc_view.specs.declared.reading.Manner.{Manner}
use Rattle.doc_view.specs.Seen.{Formats}
use Rattle.doc_places.specs.Grid.{is_head_row}
use Rattle.doc_html.specs.Writes.{paragraphs_left}
use Rattle.doc_html.proofs.heads.is_head_row.Given as goal

-- the row goes on up to here
abbrev pub invariant-loop-at : goal.invariant-loop-at
invariant-loop-at l = record {
  within : l.at ≤ length l.parts.units.now;
  marks : IsAtRunBegin l.parts.attachments.now l.marks;
  ahead : l.marks.begin ≤ l.at;
  same : (formats : Formats) (manner : Manner) →
      is_head_row (paragraphs_left formats manner (items_in l.parts) l.at)
      ≡ is_head_row (paragraphs_left formats manner (items_in l.parts) l.place);
}

abbrev pub decreases-loop-at : goal.decreases-loop-at
decreases-loop-at l = length l.parts.units.now - l.at
