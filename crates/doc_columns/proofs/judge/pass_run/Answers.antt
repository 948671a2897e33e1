use Rattle.std.proofs.Common.{sym, ◌∙◌}
use Rattle.doc_columns.proofs.JudgeLemmas.{bare_run}
use Rattle.doc_columns.proofs.judge.pass_run.Goals as goal

pub returns-clause-passed : goal.returns-clause-passed
returns-clause-passed c = λ known.
    bare_run c.args.judged.now c.args.place c.args.run.now c.args.walk.now c.requires.judged c.requires.run
    (sym c.is_something.ensures ∙ c.if-is_something.false) (c.are_plain.ensures known) c.requires.passed
