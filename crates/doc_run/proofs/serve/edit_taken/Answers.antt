use Rattle.std.proofs.Common.{Some, map}
use Rattle.script_run.specs.States.{starting_state}
use Rattle.document_commands.specs.Replies.{EndsByReply}
use Rattle.doc_run.specs.Edits.{EditsBy}
use Rattle.run_stages.proofs.Public.{whole_follows}
use Rattle.doc_run.proofs.serve.edit_taken.Goals as goal

pub returns-in-Go : goal.returns-in-Go
returns-in-Go g c =
    let out = c.args.out.now in
    let start =
    starting_state c.args.session (map (λ b. (goal.Guard-dyn g (b.vtable, b.value)).policy b.value) c.args.guards.now)
    in
    whole_follows c.args.taken c.in-Go.bytes c.as_slice.result.now
    (λ bytes. EndsByReply (Some out) (EditsBy start bytes)) c.edit_under.result c.in-Go.is c.as_slice.ensures
    c.edit_under.ensures.bytes c.edit_under.ensures.ends
