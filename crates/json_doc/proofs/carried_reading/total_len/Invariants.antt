use Rattle.std.proofs.Common.{◌≡◌, ◌≤◌, ◌*◌, ◌^◌, take, length}
use Rattle.std.specs.List.{sum_by}
use Rattle.json_doc.proofs.carried_reading.total_len.Given as goal

abbrev pub invariant-loop-i : goal.invariant-loop-i
invariant-loop-i l = record {
  sum : l.total ≡ sum_by (λ stream. length stream.bytes) (take l.i l.streams);
  few : l.total ≤ l.i * 2 ^ 64;
}
