use Rattle.std.proofs.Common.{◌≡◌, ◌++◌, take}
use Rattle.cell_spans.specs.Spans.{singles}
use Rattle.cell_spans.proofs.spans.Spans.push_singles.Given as goal

-- so many cells were added
abbrev pub invariant-loop-blank : goal.invariant-loop-blank
invariant-loop-blank l = l.self ≡ l.fn.self ++ singles (take l.blank-index l.blanks)
