use Rattle.full_save.proofs.MeasureLemmas.{AreMeasured}
use Rattle.full_save.proofs.measures.runs_measure.Given as goal

abbrev pub invariant-loop-run : goal.invariant-loop-run
invariant-loop-run l = AreMeasured l.fn.measure l.fn.runs l.run-index l.sum
