use Rattle.doc_fit.proofs.NotedLemmas.{opened_fit}
use Rattle.doc_fit.proofs.noting.open_lifted_fit.Goals as goal

pub returns-in-Ok-open_lifted : goal.returns-in-Ok-open_lifted
returns-in-Ok-open_lifted c =
    opened_fit c.args.plain c.args.file.now c.in-Ok.noted c.in-Ok-open_lifted.opened c.noted_or.result c.in-Ok.ensures
    c.in-Ok-open_lifted.ensures c.noted_or.ensures
