use Rattle.std.proofs.Common.{arith}
use Rattle.doc_read.specs.Holds.{all_rules}
use Rattle.document_commands.proofs.Public.{names-refused}
use Rattle.doc_run.proofs.opening.begin_on.Goals as goal

pub returns-in_ok-ending-in-Err-clause-is : goal.returns-in_ok-ending-in-Err-clause-is
returns-in_ok-ending-in-Err-clause-is c =
    let ending = c.in_ok-ending-in-Err.ending in
    names-refused (all_rules c.args.file.now) c.in-Err.fault c.args.name.now ending c.in-Err.ensures
    c.in_ok-ending-in-Err.ensures

pub returns-in-Ok-clause-bytes : goal.returns-in-Ok-clause-bytes
returns-in-Ok-clause-bytes c i = omega (arith, c.type_inv.file i)
