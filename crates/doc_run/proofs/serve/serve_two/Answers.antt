use Rattle.std.proofs.Common.{subst}
use Rattle.std.specs.Prelude.{IfOk}
use Rattle.doc_read.specs.Holds.{all_rules}
use Rattle.document_commands.specs.Tasks.{pair_task_of}
use Rattle.run_stages.specs.Stages.{ReadsFile}
use Rattle.doc_run.specs.Reading.{IsOpenedStage, AnswersBeside}
use Rattle.doc_run.specs.Endings.{ReadsSecond}
use Rattle.doc_run.proofs.StageLemmas.{opened_reads, opened_sound, second_reads, stopped_reads, stopped_caused}
use Rattle.run_stages.proofs.Public.{caused_later, read_twice}
use Rattle.doc_run.proofs.serve.serve_two.Goals as goal

pub serve_second-ending-requires : goal.serve_second-ending-requires
serve_second-ending-requires g c =
    opened_sound c.in_ok-taken.taken c.in-Go.document
    (subst (λ r. IsOpenedStage c.args.first.now c.in_ok-taken.taken r) c.in-Go.is c.in_ok-reached.ensures)

pub returns-in-Go-clause-read : goal.returns-in-Go-clause-read
returns-in-Go-clause-read g c =
    let ending = c.serve_second-ending in
    read_twice g.S.Shelf c.args.shelf.now c.take_file.new.shelf ending.new.shelf c.in_ok-taken.ensures.read
    ending.ensures.read

pub returns-in-Go-clause-ends : goal.returns-in-Go-clause-ends
returns-in-Go-clause-ends g c =
    let first = c.args.first.now in
    let second = c.args.second.now in
    let pair = pair_task_of c.args.pair in
    let held = g.S.Shelf.held c.args.shelf.now in
    let taken = c.in_ok-taken.taken in
    let document = c.in-Go.document in
    let result = c.serve_second-ending.result in
    let opened = subst (λ r. IsOpenedStage first taken r) c.in-Go.is c.in_ok-reached.ensures in
    let reads =
    subst (λ h. IfOk result (λ e. ReadsFile second h all_rules (AnswersBeside pair document) e))
    c.in_ok-taken.ensures.read.kept c.serve_second-ending.ensures.ends in
    opened_reads first held taken document (ReadsSecond pair second held) result c.in_ok-taken.ensures.is opened
    (λ one holds. second_reads pair second held document one result holds reads)

pub returns-in-Go-clause-cause : goal.returns-in-Go-clause-cause
returns-in-Go-clause-cause g c =
    let ending = c.serve_second-ending in
    caused_later g.S.Shelf c.args.shelf.now c.take_file.new.shelf ending.new.shelf ending.result
    c.in_ok-taken.ensures.read ending.ensures.cause

pub returns-in-Stop-clause-ends : goal.returns-in-Stop-clause-ends
returns-in-Stop-clause-ends g c =
    let first = c.args.first.now in
    let held = g.S.Shelf.held c.args.shelf.now in
    let taken = c.in_ok-taken.taken in
    let stopped = subst (λ r. IsOpenedStage first taken r) c.in-Stop.is c.in_ok-reached.ensures in
    stopped_reads first held taken (ReadsSecond (pair_task_of c.args.pair) c.args.second.now held) c.in-Stop.ending
    c.in_ok-taken.ensures.is stopped

pub returns-in-Stop-clause-cause : goal.returns-in-Stop-clause-cause
returns-in-Stop-clause-cause g c =
    let first = c.args.first.now in
    let taken = c.in_ok-taken.taken in
    let stopped = subst (λ r. IsOpenedStage first taken r) c.in-Stop.is c.in_ok-reached.ensures in
    stopped_caused g.S.Shelf c.args.shelf.now c.take_file.new.shelf first taken c.in-Stop.ending
    c.in_ok-taken.ensures.cause stopped
