use Rattle.run_stages.proofs.Public.{whole_follows}
use Rattle.docfit_run.specs.Fitted.{JudgesFit}
use Rattle.docfit_run.proofs.fitting.fit_taken.Goals as goal

pub returns-in-Go : goal.returns-in-Go
returns-in-Go c =
    whole_follows c.args.taken c.in-Go.bytes c.as_slice.result.now (JudgesFit c.args.plain c.args.name.now c.args.out.now)
    c.fit_file.result c.in-Go.is c.as_slice.ensures c.fit_file.ensures.bytes c.fit_file.ensures.judges
