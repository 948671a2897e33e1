use Rattle.doc_read.specs.Holds.{all_rules}
use Rattle.run_stages.specs.Judged.{Judges}
use Rattle.document_commands.specs.Tasks.{task_of}
use Rattle.document_commands.specs.Answers.{AnswersFile}
use Rattle.run_stages.proofs.Public.{whole_follows}
use Rattle.doc_run.proofs.serve.answer_taken.Goals as goal

pub returns-in-Go : goal.returns-in-Go
returns-in-Go c =
    let name = c.args.name.now in
    whole_follows c.args.taken c.in-Go.bytes c.as_slice.result.now
    (λ bytes. Judges (all_rules bytes) name (AnswersFile (task_of c.args.task) name bytes)) c.answer_file.result c.in-Go.is c.as_slice.ensures
    c.answer_file.ensures.bytes c.answer_file.ensures.judges
