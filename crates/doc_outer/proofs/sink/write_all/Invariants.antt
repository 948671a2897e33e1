use Rattle.std.proofs.Common.{length, ◌-◌, ◌≤◌, take}
use Rattle.doc_outer.specs.Counts.{CountGoesOn}
use Rattle.doc_outer.specs.Written.{Appends}
use Rattle.doc_outer.proofs.sink.write_all.Given as goal

-- what was taken so far was appended
abbrev pub invariant-loop-taken : goal.invariant-loop-taken
invariant-loop-taken g l =
    let written = g.K.Sink.written in let faults = g.K.Sink.faults in
    record {
      within : l.taken ≤ length l.bytes;
      appended : Appends (written l.fn.sink) (written l.sink) (take l.taken l.bytes);
      faults : CountGoesOn (faults l.fn.sink) (faults l.sink);
    }

abbrev pub decreases-loop-taken : goal.decreases-loop-taken
decreases-loop-taken g l = length l.bytes - l.taken
