use Rattle.std.proofs.Common.{◌≡◌, ◌+◌, ◌++◌, map, take}
use Rattle.doc_read.proofs.marked.push_fields.Given as goal

abbrev pub invariant-loop-i : goal.invariant-loop-i
invariant-loop-i l = record {
  cps_so_far : l.cps.items ≡ l.fn.cps.items ++ map (λ fld. l.begin + fld.cp) (take l.i l.fields);
  bytes_so_far : l.bytes.items ≡ l.fn.bytes.items ++ map (λ fld. fld.byte) (take l.i l.fields);
}
