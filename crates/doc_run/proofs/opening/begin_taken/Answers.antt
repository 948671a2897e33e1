use Rattle.doc_run.proofs.StageLemmas.{whole_begun}
use Rattle.doc_run.proofs.opening.begin_taken.Goals as goal

pub returns-in-Go : goal.returns-in-Go
returns-in-Go c =
    whole_begun c.args.name.now c.args.taken c.in-Go.bytes c.as_slice.result.now c.begin_on.result c.in-Go.is
    c.as_slice.ensures
    c.begin_on.ensures.bytes c.begin_on.ensures.is
