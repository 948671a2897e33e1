use Rattle.full_save.proofs.MeasureLemmas.{AreTextsMeasured}
use Rattle.full_save.proofs.measures.measure_of_texts.Given as goal

abbrev pub invariant-loop-k : goal.invariant-loop-k
invariant-loop-k l = AreTextsMeasured l.texts l.k l.units l.fields
