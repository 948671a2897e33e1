use Rattle.std.proofs.Common.{subst, map}
use Rattle.std.specs.Prelude.{IfOk}
use Rattle.std.proofs.lemmas.Result.{IfOk-weaker}
use Rattle.script_run.specs.States.{starting_state}
use Rattle.doc_run.specs.Reading.{IsBegun}
use Rattle.doc_run.specs.Edits.{ReadsScript, EditsFile}
use Rattle.doc_run.proofs.SessionLemmas.{begun_unchanged}
use Rattle.doc_run.proofs.StageLemmas.{begun_reads, stopped_reads, stopped_caused}
use Rattle.run_stages.proofs.Public.{caused_later, read_twice}
use Rattle.doc_run.proofs.serve.serve_edit.Goals as goal

pub edit_by_name-requires : goal.edit_by_name-requires
edit_by_name-requires g c =
    begun_unchanged c.in_ok-taken.taken c.in-Go.session
    (subst (λ b. IsBegun c.args.file.now c.in_ok-taken.taken b) c.in-Go.is c.in_ok-begun.ensures)

pub returns-in-Go-clause-read : goal.returns-in-Go-clause-read
returns-in-Go-clause-read g c =
    read_twice g.S.Shelf c.args.shelf.now c.take_file.new.shelf c.edit_by_name.new.shelf c.in_ok-taken.ensures.read
    c.edit_by_name.ensures.read

pub returns-in-Go-clause-ends : goal.returns-in-Go-clause-ends
returns-in-Go-clause-ends g c =
    let name = c.args.file.now in
    let script = c.args.script.now in
    let out = c.args.out.now in
    let held = g.S.Shelf.held c.args.shelf.now in
    let taken = c.in_ok-taken.taken in
    let session = c.in-Go.session in
    let result = c.edit_by_name.result in
    let policies = map (λ b. (goal.Guard-dyn g (b.vtable, b.value)).policy b.value) c.args.guards.now in
    let start = starting_state session policies in
    let begun = subst (λ b. IsBegun name taken b) c.in-Go.is c.in_ok-begun.ensures in
    let reads =
    subst (λ h. IfOk result (λ e. ReadsScript script out h start e)) c.in_ok-taken.ensures.read.kept
    c.edit_by_name.ensures.ends in
    begun_reads name held taken session (EditsFile policies script out held) result c.in_ok-taken.ensures.is begun
    (λ bytes started. IfOk-weaker result (λ e. ReadsScript script out held start e)
    (λ e. EditsFile policies script out held bytes e)
    (λ e h. record { session = session; started = started; reads = h }) reads)

pub returns-in-Go-clause-cause : goal.returns-in-Go-clause-cause
returns-in-Go-clause-cause g c =
    caused_later g.S.Shelf c.args.shelf.now c.take_file.new.shelf c.edit_by_name.new.shelf c.edit_by_name.result
    c.in_ok-taken.ensures.read c.edit_by_name.ensures.cause

pub returns-in-Stop-clause-ends : goal.returns-in-Stop-clause-ends
returns-in-Stop-clause-ends g c =
    let name = c.args.file.now in
    let held = g.S.Shelf.held c.args.shelf.now in
    let taken = c.in_ok-taken.taken in
    let policies = map (λ b. (goal.Guard-dyn g (b.vtable, b.value)).policy b.value) c.args.guards.now in
    let stopped = subst (λ b. IsBegun name taken b) c.in-Stop.is c.in_ok-begun.ensures in
    stopped_reads name held taken (EditsFile policies c.args.script.now c.args.out.now held) c.in-Stop.ending
    c.in_ok-taken.ensures.is stopped

pub returns-in-Stop-clause-cause : goal.returns-in-Stop-clause-cause
returns-in-Stop-clause-cause g c =
    let name = c.args.file.now in
    let taken = c.in_ok-taken.taken in
    let stopped = subst (λ b. IsBegun name taken b) c.in-Stop.is c.in_ok-begun.ensures in
    stopped_caused g.S.Shelf c.args.shelf.now c.take_file.new.shelf name taken c.in-Stop.ending
    c.in_ok-taken.ensures.cause stopped
