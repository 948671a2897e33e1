use Rattle.doc_patch.proofs.PlaceLemmas.{IsPartCount}
use Rattle.doc_patch.proofs.places.count_before.Given as goal

-- what is counted so far
abbrev pub invariant-loop-run : goal.invariant-loop-run
invariant-loop-run l = IsPartCount l.part l.runs l.run-index l.at l.left l.count
