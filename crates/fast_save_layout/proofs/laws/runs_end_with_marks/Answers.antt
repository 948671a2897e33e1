use Rattle.fast_save_layout.proofs.MarkEnds.{runs_end_with_marks}
use Rattle.fast_save_layout.proofs.laws.runs_end_with_marks.Goals as goal

pub returns : goal.returns
returns c = runs_end_with_marks
