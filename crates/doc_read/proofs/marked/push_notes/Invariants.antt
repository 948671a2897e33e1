use Rattle.std.proofs.Common.{◌≡◌, ◌++◌, map, take}
use Rattle.doc_read.specs.Marked.{note_kind}
use Rattle.doc_read.proofs.marked.push_notes.Given as goal

abbrev pub invariant-loop-i : goal.invariant-loop-i
invariant-loop-i l = record {
  cps_so_far : l.cps.items ≡ l.fn.cps.items ++ map (λ ref. ref.cp) (take l.i l.refs);
  kinds_so_far : l.kinds.items ≡ l.fn.kinds.items ++ map (λ ref. note_kind ref.auto) (take l.i l.refs);
}
