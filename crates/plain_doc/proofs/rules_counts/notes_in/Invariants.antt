use Rattle.std.proofs.Common.{◌≡◌, ◌≤◌, take}
use Rattle.plain_doc.specs.RulesOfSheet.{note_count}
use Rattle.plain_doc.proofs.rules_counts.notes_in.Given as goal

-- as many of the items so far
abbrev pub invariant-loop-item : goal.invariant-loop-item
invariant-loop-item l = record {
  count : l.count ≡ note_count (take l.item-index l.main);
  few : l.count ≤ l.item-index;
}
