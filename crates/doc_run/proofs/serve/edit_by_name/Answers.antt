use Rattle.std.proofs.Common.{Some, map, sym, subst}
use Rattle.std.specs.Prelude.{IfOk}
use Rattle.fast_save.specs.Session.{SessionView}
use Rattle.script_run.specs.States.{starting_state}
use Rattle.script_run.specs.Ends.{IsUnchanged}
use Rattle.document_commands.specs.Replies.{EndsByReply}
use Rattle.document_commands.proofs.Public.{ends_inside}
use Rattle.run_stages.specs.Reading.{FollowsStage}
use Rattle.doc_run.specs.Edits.{EditsBy, IsOverlongScript}
use Rattle.run_stages.proofs.Public.{follows_reads, follows_caused}
use Rattle.doc_run.proofs.serve.edit_by_name.Goals as goal

pub edit_taken-requires : goal.edit_taken-requires
edit_taken-requires g c = subst IsUnchanged (sym c.in_ok-session.ensures.0) c.requires

pub returns-clause-ends : goal.returns-clause-ends
returns-clause-ends g c =
    let out = c.args.out.now in
    let policies = map (λ b. (goal.Guard-dyn g (b.vtable, b.value)).policy b.value) c.args.guards.now in
    let both = c.in_ok-session.ensures in
    let taken = c.in_ok-session.taken in
    let is = rw both.1 at c.take_script-read.ensures.is in
    let follows =
    subst
    (λ (s : SessionView).
    IfOk c.edit_taken.result
    (λ e. FollowsStage taken (λ bytes. EndsByReply (Some out) (EditsBy (starting_state s policies) bytes)) e))
    both.0 c.edit_taken.ensures in
    follows_reads c.args.script.now (g.S.Shelf.held c.args.shelf.now) taken IsOverlongScript
    (λ bytes. EndsByReply (Some out) (EditsBy (starting_state c.args.session policies) bytes)) c.edit_taken.result is
    follows

pub returns-clause-cause : goal.returns-clause-cause
returns-clause-cause g c =
    let out = c.args.out.now in
    let policies = map (λ b. (goal.Guard-dyn g (b.vtable, b.value)).policy b.value) c.args.guards.now in
    let both = c.in_ok-session.ensures in
    let start = starting_state c.in_ok-session.session policies in
    let cause = rw both.1 at c.take_script-read.ensures.cause in
    follows_caused g.S.Shelf c.args.shelf.now c.take_script-read.new.shelf c.in_ok-session.taken
    (λ bytes. EndsByReply (Some out) (EditsBy start bytes)) c.edit_taken.result
    (λ bytes o x. ends_inside (Some out) (EditsBy start bytes) o x) cause c.edit_taken.ensures
