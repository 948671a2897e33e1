use Rattle.doc_read.proofs.opened.expand.Goals as goal

pub returns-in-Err : goal.returns-in-Err
returns-in-Err c = rw c.drop_then.ensures tt
