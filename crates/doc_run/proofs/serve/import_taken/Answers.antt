use Rattle.std.proofs.Common.{Some}
use Rattle.document_commands.specs.Imports.{Imports}
use Rattle.document_commands.specs.Replies.{EndsByReply}
use Rattle.run_stages.proofs.Public.{whole_follows}
use Rattle.doc_run.proofs.serve.import_taken.Goals as goal

pub returns-in-Go : goal.returns-in-Go
returns-in-Go c =
    whole_follows c.args.taken c.in-Go.bytes c.as_slice.result.now
    (λ bytes. EndsByReply (Some c.args.out.now) (Imports bytes)) c.import_file.result c.in-Go.is c.as_slice.ensures
    c.import_file.ensures.bytes c.import_file.ensures.ends
