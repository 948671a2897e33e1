use Rattle.std.proofs.Common.{refl}
use Rattle.fast_save_layout.proofs.MarkSteps.{none_yet}
use Rattle.fast_save_layout.proofs.runs.ParagraphRuns.new.Goals as goal

pub returns-clause-now : goal.returns-clause-now
returns-clause-now c =
    none_yet c.args.base (record { start = c.args.start; closed = c.new.result; from = c.args.base }) c.new.ensures refl
