use Rattle.run_stages.specs.Judged.{Judges}
use Rattle.document_commands.specs.Judged.{rules_by_place}
use Rattle.document_commands.specs.Answers.{ListsStreams}
use Rattle.run_stages.proofs.Public.{whole_follows}
use Rattle.doc_run.proofs.serve.list_taken.Goals as goal

pub returns-in-Go : goal.returns-in-Go
returns-in-Go c =
    whole_follows c.args.taken c.in-Go.bytes c.as_slice.result.now
    (λ bytes. Judges (rules_by_place bytes) c.args.name.now (ListsStreams bytes)) c.list_streams.result c.in-Go.is
    c.as_slice.ensures
    c.list_streams.ensures.bytes c.list_streams.ensures.judges
