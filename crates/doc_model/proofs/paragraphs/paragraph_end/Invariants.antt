use Rattle.doc_model.proofs.MarkLemmas.{HasNoMark}
use Rattle.doc_model.proofs.paragraphs.paragraph_end.Given as goal

-- no item so far has a mark
abbrev pub invariant-loop-i : goal.invariant-loop-i
invariant-loop-i l = HasNoMark l.items l.at l.i
