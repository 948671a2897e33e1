use Rattle.document_commands.specs.Judged.{rules_by_place}
use Rattle.document_commands.specs.Answers.{ListsStreams}
use Rattle.document_commands.proofs.Public.{lists_inside}
use Rattle.run_stages.proofs.Public.{file_reads, file_caused}
use Rattle.doc_run.proofs.serve.serve_streams.Goals as goal

pub returns-clause-ends : goal.returns-clause-ends
returns-clause-ends g c =
    file_reads c.args.file.now (g.S.Shelf.held c.args.shelf.now) c.in_ok-taken.taken rules_by_place ListsStreams
    c.list_taken.result c.in_ok-taken.ensures.is c.list_taken.ensures

pub returns-clause-cause : goal.returns-clause-cause
returns-clause-cause g c =
    file_caused g.S.Shelf c.args.shelf.now c.take_file.new.shelf c.args.file.now c.in_ok-taken.taken rules_by_place
    ListsStreams c.list_taken.result lists_inside c.in_ok-taken.ensures.cause c.list_taken.ensures
