use Rattle.std.proofs.Common.{◌≡◌, ◌∙◌, refl, Some, map, arith}
use Rattle.script_run.specs.States.{starting_state}
use Rattle.document_commands.proofs.Public.{ends_by}
use Rattle.doc_run.specs.Edits.{EditsBy}
use Rattle.doc_run.proofs.edit.edit_under.Goals as goal

pub returns-clause-ends : goal.returns-clause-ends
returns-clause-ends g c =
    let out = Some c.args.out.now in
    let such =
    EditsBy
    (starting_state c.args.session (map (λ b. (goal.Guard-dyn g (b.vtable, b.value)).policy b.value) c.args.guards.now))
    c.args.script.now in
    ends_by out out such c.in_ok-reply.reply c.explain.result c.in_ok-reply.ensures refl
    (c.explain.ensures ∙ c.in_ok-ending.ensures)

pub returns-clause-bytes : goal.returns-clause-bytes
returns-clause-bytes g c i = omega (arith, c.type_inv.script i)

pub returns-in_err-reply-clause-bytes : goal.returns-in_err-reply-clause-bytes
returns-in_err-reply-clause-bytes g c i = omega (arith, c.type_inv.script i)

pub returns-in_err-ending-clause-bytes : goal.returns-in_err-ending-clause-bytes
returns-in_err-ending-clause-bytes g c i = omega (arith, c.type_inv.script i)
