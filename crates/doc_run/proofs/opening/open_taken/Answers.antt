use Rattle.doc_run.proofs.StageLemmas.{whole_reached}
use Rattle.doc_run.proofs.opening.open_taken.Goals as goal

pub returns-in-Go : goal.returns-in-Go
returns-in-Go c =
    whole_reached c.args.name.now c.args.taken c.in-Go.bytes c.as_slice.result.now c.open_file.result c.in-Go.is
    c.as_slice.ensures
    c.open_file.ensures.bytes c.open_file.ensures.is
