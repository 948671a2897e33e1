use Rattle.doc_read.specs.Holds.{all_rules}
use Rattle.run_stages.specs.Judged.{Judges}
use Rattle.document_commands.specs.Tasks.{pair_task_of}
use Rattle.doc_run.specs.Reading.{AnswersBeside}
use Rattle.run_stages.proofs.Public.{whole_follows}
use Rattle.doc_run.proofs.serve.second_taken.Goals as goal

pub returns-in-Go : goal.returns-in-Go
returns-in-Go c =
    whole_follows c.args.taken c.in-Go.bytes c.as_slice.result.now
    (λ bytes. Judges (all_rules bytes) c.args.name.now (AnswersBeside (pair_task_of c.args.pair) c.args.first.now
    bytes))
    c.answer_second.result c.in-Go.is c.as_slice.ensures
    c.answer_second.ensures.bytes c.answer_second.ensures.judges
