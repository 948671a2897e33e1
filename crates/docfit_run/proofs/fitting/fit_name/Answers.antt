use Rattle.run_stages.specs.Stages.{BreaksLengthRule}
use Rattle.run_stages.proofs.Public.{follows_reads, follows_caused}
use Rattle.docfit_run.specs.Fitted.{JudgesFit}
use Rattle.docfit_run.proofs.PutLemmas.{judged_inside}
use Rattle.docfit_run.proofs.fitting.fit_name.Goals as goal

pub returns-clause-ends : goal.returns-clause-ends
returns-clause-ends g c =
    let name = c.args.name.now in
    follows_reads name (g.S.Shelf.held c.args.shelf.now) c.in_ok-taken.taken (BreaksLengthRule name)
    (JudgesFit c.args.plain name c.args.out.now) c.fit_taken.result c.in_ok-taken.ensures.is c.fit_taken.ensures

pub returns-clause-cause : goal.returns-clause-cause
returns-clause-cause g c =
    let name = c.args.name.now in
    let out = c.args.out.now in
    follows_caused g.S.Shelf c.args.shelf.now c.take_file.new.shelf c.in_ok-taken.taken (JudgesFit c.args.plain name out)
    c.fit_taken.result (λ bytes o x. judged_inside c.args.plain name out bytes o x) c.in_ok-taken.ensures.cause c.fit_taken.ensures
