use Rattle.doc_fit.proofs.ReadAsLemmas.{opened_at_once}
use Rattle.doc_fit.proofs.file_opening.open_file.Goals as goal

pub returns-in-Ok : goal.returns-in-Ok
returns-in-Ok c =
    rw c.opened_file.ensures
    (opened_at_once c.args.plain c.args.file.now c.in_ok-mended.mended c.in-Ok.opened
    (rw c.bytes.ensures at c.in-Ok.ensures.bytes) c.in_ok-mended.ensures
    (rw c.bytes.ensures at c.in-Ok.ensures.opened))

pub open_refused-requires-clause-refused : goal.open_refused-requires-clause-refused
open_refused-requires-clause-refused c = rw c.bytes.ensures at c.in-Err.ensures.opened
