use Rattle.std.proofs.Common.{◌≡◌, ◌+◌, ◌≤◌}
use Rattle.cfb_layout.specs.Tree.{all_entries, span_of_entry}
use Rattle.cfb_layout.proofs.TreeLemmas.{IsWithin}
use Rattle.cfb_layout.proofs.tree.part_of.Given as goal

abbrev pub invariant-loop-span : goal.invariant-loop-span
invariant-loop-span l = record {
  within : IsWithin l.span l.entry;
  room : l.span.low + l.span.count ≤ l.count + 1;
  same : span_of_entry l.count l.entry (all_entries l.count) ≡ span_of_entry l.span.count l.entry l.span;
}

abbrev pub decreases-loop-span : goal.decreases-loop-span
decreases-loop-span l = l.span.count
