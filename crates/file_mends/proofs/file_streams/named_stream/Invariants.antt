use Rattle.file_mends.proofs.StopsLemmas.{HaveOthers}
use Rattle.file_mends.proofs.file_streams.named_stream.Given as goal

-- none of the streams so far
abbrev pub invariant-loop-i : goal.invariant-loop-i
invariant-loop-i l = HaveOthers l.container l.name l.i
