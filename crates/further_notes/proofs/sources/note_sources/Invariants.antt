use Rattle.std.proofs.Common.{◌≡◌, ◌≤◌}
use Rattle.std.specs.List.{filter_map}
use Rattle.doc_parts.specs.Tabulated.{tabulate}
use Rattle.further_notes.specs.Sources.{source_at, notes_before}
use Rattle.further_notes.proofs.sources.note_sources.Given as goal

-- the notes so far, and how many of each kind
abbrev pub invariant-loop-at : goal.invariant-loop-at
invariant-loop-at l = record {
  list : l.list.items ≡ filter_map (λ source. source) (tabulate (source_at l.own l.others) l.at);
  before : l.before ≡ notes_before l.own l.at;
  more : l.more ≡ notes_before l.others l.at;
  few : l.before ≤ l.at;
  some : l.more ≤ l.at;
}
