use Rattle.std.proofs.Common.{◌≤◌, ◌-◌}
use Rattle.markdown_page.specs.Pieces.{markup, marks_text}
use Rattle.markdown_page.specs.Printed.{PutsTokens}
use Rattle.markdown_page.proofs.pen.Pen.put_marks.Given as goal

-- it was put so many times
abbrev pub invariant-loop-done : goal.invariant-loop-done
invariant-loop-done g l = record {
  puts : PutsTokens g.K.Sink l.fn.out l.fn.self l.out l.self (markup (marks_text l.mark l.done));
  within : l.done ≤ l.count;
}

abbrev pub decreases-loop-done : goal.decreases-loop-done
decreases-loop-done g l = l.count - l.done
