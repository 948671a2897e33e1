use Rattle.doc_read.specs.Holds.{all_rules}
use Rattle.document_commands.specs.Tasks.{task_of}
use Rattle.document_commands.specs.Answers.{AnswersFile}
use Rattle.document_commands.proofs.Public.{file_inside}
use Rattle.run_stages.proofs.Public.{file_reads, file_caused}
use Rattle.doc_run.proofs.serve.serve_document.Goals as goal

pub returns-clause-ends : goal.returns-clause-ends
returns-clause-ends g c =
    file_reads c.args.file.now (g.S.Shelf.held c.args.shelf.now) c.in_ok-taken.taken all_rules
    (AnswersFile (task_of c.args.task) c.args.file.now) c.answer_taken.result c.in_ok-taken.ensures.is
    c.answer_taken.ensures

pub returns-clause-cause : goal.returns-clause-cause
returns-clause-cause g c =
    let name = c.args.file.now in
    let task = task_of c.args.task in
    file_caused g.S.Shelf c.args.shelf.now c.take_file.new.shelf name c.in_ok-taken.taken all_rules
    (AnswersFile task name) c.answer_taken.result (file_inside task name) c.in_ok-taken.ensures.cause
    c.answer_taken.ensures
