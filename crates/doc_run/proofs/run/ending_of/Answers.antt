use Rattle.std.proofs.Common.{Some}
use Rattle.doc_run.specs.Generates.{Generates}
use Rattle.doc_run.proofs.StageLemmas.{reply_caused}
use Rattle.doc_run.proofs.run.ending_of.Goals as goal

pub returns-in-Some-Gen-clause-cause : goal.returns-in-Some-Gen-clause-cause
returns-in-Some-Gen-clause-cause g c =
    reply_caused g.S.Shelf c.args.shelf.now c.args.shelf.now (Some c.in-Some-Gen.out.now) (Generates c.in-Some-Gen.seed)
    c.generate_under.result c.generate_under.ensures
