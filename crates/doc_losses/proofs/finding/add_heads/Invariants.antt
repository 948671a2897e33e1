use Rattle.std.proofs.Common.{◌≡◌, ◌++◌, ◌*◌, ◌^◌, ◌-◌, ◌≤◌}
use Rattle.std.specs.List.{flat_map}
use Rattle.doc_parts.specs.Tabulated.{tabulate}
use Rattle.doc_losses.specs.References.{head_references, head_begin}
use Rattle.doc_losses.specs.Marks.{names_of_marks}
use Rattle.doc_losses.proofs.finding.add_heads.Given as goal

-- the texts so far, and the CP at which the next one begins
abbrev pub invariant-loop-number : goal.invariant-loop-number
invariant-loop-number l = record {
  list :
      l.list.items ≡ l.fn.list.items ++ flat_map (λ references. references) (tabulate (head_references (names_of_marks
      l.marks) l.heads) l.number);
  begin : l.begin ≡ head_begin l.heads l.number;
  few : l.begin ≤ l.number * (2 ^ 32 - 1);
}
