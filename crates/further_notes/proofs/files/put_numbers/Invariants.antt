use Rattle.std.proofs.Common.{◌≡◌, take, length}
use Rattle.further_notes.specs.NoteFiles.{with_numbers}
use Rattle.further_notes.proofs.files.put_numbers.Given as goal

-- the numbers so far
abbrev pub invariant-loop-k : goal.invariant-loop-k
invariant-loop-k l = record {
  bytes : l.bytes ≡ with_numbers (take l.k l.fields) l.fn.bytes;
  len : length l.bytes ≡ length l.fn.bytes;
}
