use Rattle.std.proofs.Common.{◌≡◌, ◌≤◌, ◌++◌, ◌-◌, length}
use Rattle.std.specs.Prelude.{slice_range}
use Rattle.run_lists.specs.Places.{IsAtRunBegin}
use Rattle.doc_show.specs.Story.{story_lines}
use Rattle.doc_columns.specs.Walks.{items_in, IsColumnWalk}
use Rattle.doc_show.proofs.story.push_paragraphs.Given as goal

-- the lines of the paragraphs so far are there
abbrev pub invariant-loop-at : goal.invariant-loop-at
invariant-loop-at l = record {
  walk : IsColumnWalk l.fn.parts l.walk l.at;
  marks : IsAtRunBegin l.fn.parts.attachments.now l.marks;
  ahead : l.marks.begin ≤ l.at;
  within : l.at ≤ length l.fn.parts.units.now;
  lines : l.text ++ story_lines (slice_range (items_in l.fn.parts) l.at (length l.fn.parts.units.now))
      ≡ l.fn.text ++ story_lines (items_in l.fn.parts);
}

abbrev pub decreases-loop-at : goal.decreases-loop-at
decreases-loop-at l = length l.fn.parts.units.now - l.at
