use Rattle.std.proofs.Common.{◌≡◌, ◌≤◌, ◌-◌}
use Rattle.doc_read.specs.Passing.{AddsEach}
use Rattle.doc_read.specs.Reading.{ArePassed, HaveValidMarks}
use Rattle.doc_read.specs.Attached.{IsAttachedAt}
use Rattle.doc_read.proofs.attached.push_attachments.Given as goal

-- what is beside the units so far
abbrev pub invariant-loop-cp : goal.invariant-loop-cp
invariant-loop-cp l = record {
  begun : l.piece.cp ≤ l.cp;
  within : l.cp ≤ l.piece.end;
  same : l.reader ≡ l.fn.reader;
  right : HaveValidMarks l.part.view l.piece.cp l.cp;
  added : AddsEach (IsAttachedAt l.part.view l.fn.reader.characters.modifier) (l.cp - l.piece.cp)
      l.fn.attachments l.attachments;
  passed : ArePassed l.part.view.marks l.passed l.cp;
}

abbrev pub decreases-loop-cp : goal.decreases-loop-cp
decreases-loop-cp l = l.piece.end - l.cp
