use Rattle.std.proofs.Common.{◌≡◌, ◌*◌, ◌^◌, ◌-◌, ◌≤◌, length}
use Rattle.doc_losses.specs.References.{head_begin}
use Rattle.doc_losses.specs.Marks.{names_of_marks}
use Rattle.doc_mends.proofs.HeadLemmas.{cut_to}
use Rattle.doc_mends.proofs.cutting.cut_heads.Given as goal

-- the first texts are cut, and the others are as they were
abbrev pub invariant-loop-number : goal.invariant-loop-number
invariant-loop-number l = record {
  heads : l.heads ≡ cut_to (names_of_marks l.marks) l.fn.heads l.number;
  within : l.number ≤ length l.fn.heads;
  begin : l.begin ≡ head_begin l.fn.heads l.number;
  few : l.begin ≤ l.number * (2 ^ 32 - 1);
}
