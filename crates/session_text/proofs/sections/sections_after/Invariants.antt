use Rattle.session_text.proofs.PlanLemmas.{PlannedSoFar}
use Rattle.session_text.proofs.sections.sections_after.Given as goal

-- the places after the changes so far
abbrev pub invariant-loop-k : goal.invariant-loop-k
invariant-loop-k l = PlannedSoFar l.document l.changes l.places l.k l.new.items
