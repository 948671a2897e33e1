use Rattle.doc_pictures.proofs.StepLemmas.{AreUpTo}
use Rattle.doc_pictures.proofs.pictures.pictures_at.Given as goal

-- the pictures of the places so far
abbrev pub invariant-loop-i : goal.invariant-loop-i
invariant-loop-i l = AreUpTo l.stream l.places l.i l.end l.pictures.items
