use Rattle.doc_fit.proofs.OpenLemmas.{lifted_streams, lifted_deletions, mended_formed, mended_refused}
use Rattle.doc_fit.proofs.opening.check_lifted.Goals as goal

pub mend_lifted-requires-clause-streams : goal.mend_lifted-requires-clause-streams
mend_lifted-requires-clause-streams c = lifted_streams c.args.file.now c.args.lifted.now c.requires

pub mend_lifted-requires-clause-deletions : goal.mend_lifted-requires-clause-deletions
mend_lifted-requires-clause-deletions c = lifted_deletions c.args.file.now c.args.lifted.now c.requires

pub check_document-requires : goal.check_document-requires
check_document-requires c =
    mended_formed c.args.file.now c.args.lifted.now c.mend_lifted.new.lifted _ _ c.requires c.in-Ok.ensures

pub returns-in-Err : goal.returns-in-Err
returns-in-Err c =
    mended_refused c.args.file.now c.args.lifted.now c.mend_lifted.new.lifted _ _ c.in-Err.fault c.requires
    c.in-Ok.ensures c.in-Err.ensures
