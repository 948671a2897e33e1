use Rattle.doc_fit.proofs.RefusalLemmas.{one_main, version_of_file}
use Rattle.doc_fit.proofs.refusing.version_of.Goals as goal

pub version_in-found-requires : goal.version_in-found-requires
version_in-found-requires c =
    one_main c.args.file.now c.in-Ok.outer.container c.requires c.in-Ok.ensures.1.0

pub returns-in-Ok : goal.returns-in-Ok
returns-in-Ok c =
    version_of_file c.args.file.now c.in-Ok.outer.container c.version_in-found.result c.in-Ok.ensures.1.0
    c.version_in-found.ensures
