use Rattle.doc_fit.proofs.OpenLemmas.{not_lifted}
use Rattle.doc_fit.proofs.opening.open_any.Goals as goal

pub returns-in-Err : goal.returns-in-Err
returns-in-Err c = not_lifted c.args.file.now c.in-Err.fault c.in-Err.ensures
