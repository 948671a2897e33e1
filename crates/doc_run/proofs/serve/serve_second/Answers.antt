use Rattle.doc_read.specs.Holds.{all_rules}
use Rattle.document_commands.specs.Tasks.{pair_task_of}
use Rattle.doc_run.specs.Reading.{AnswersBeside}
use Rattle.run_stages.proofs.Public.{file_reads, file_caused}
use Rattle.doc_run.proofs.StageLemmas.{beside_inside}
use Rattle.doc_run.proofs.serve.serve_second.Goals as goal

pub returns-clause-ends : goal.returns-clause-ends
returns-clause-ends g c =
    file_reads c.args.second.now (g.S.Shelf.held c.args.shelf.now) c.in_ok-taken.taken all_rules
    (AnswersBeside (pair_task_of c.args.pair) c.args.first.now) c.second_taken.result c.in_ok-taken.ensures.is
    c.second_taken.ensures

pub returns-clause-cause : goal.returns-clause-cause
returns-clause-cause g c =
    let pair = pair_task_of c.args.pair in
    let first = c.args.first.now in
    file_caused g.S.Shelf c.args.shelf.now c.take_file.new.shelf c.args.second.now c.in_ok-taken.taken all_rules
    (AnswersBeside pair first) c.second_taken.result (beside_inside pair first) c.in_ok-taken.ensures.cause
    c.second_taken.ensures
