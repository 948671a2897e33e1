use Rattle.std.proofs.Common.{◌≡◌, inl, inr, sym, subst, map}
use Rattle.std.specs.Prelude.{IfOk}
use Rattle.std.proofs.lemmas.Result.{IfOk-weaker}
use Rattle.edit_script.specs.Laws.{IsScriptCause}
use Rattle.script_run.specs.States.{starting_state}
use Rattle.document_commands.specs.declared.reply.Reply.TheVariants.{Refused}
use Rattle.document_commands.specs.declared.reply.Refusal.TheVariants.{Script}
use Rattle.doc_run.specs.EditLines.{script_line}
use Rattle.doc_run.specs.Edits.{Edits, EditsBy}
use Rattle.doc_run.proofs.EditLemmas.{script_few}
use Rattle.doc_run.proofs.edit.edit_by.Goals as goal

pub edit-requires-clause-few : goal.edit-requires-clause-few
edit-requires-clause-few g c = script_few c.args.script.now c.in-Ok.script c.in-Ok.ensures

pub returns-in-Err : goal.returns-in-Err
returns-in-Err g c =
    let start =
    starting_state c.args.session (map (λ b. (goal.Guard-dyn g (b.vtable, b.value)).policy b.value) c.args.guards.now)
    in
    let bytes = c.args.script.now in
    let fault = c.in-Err.fault in
    let edits : IfOk c.no_script.result (λ r. EditsBy start bytes r) =
    IfOk-weaker c.no_script.result (λ r. IsScriptCause fault × (r ≡ Refused Script (script_line fault)))
    (λ r. EditsBy start bytes r)
    (λ r h. inl (record { fault = fault; cause = h.0; is = c.in-Err.ensures; ends = h.1 })) c.no_script.ensures in
    subst (λ result. IfOk result (λ r. EditsBy start bytes r)) (sym c.drop_then.ensures) edits

pub returns-in-Ok : goal.returns-in-Ok
returns-in-Ok g c =
    let start =
    starting_state c.args.session (map (λ b. (goal.Guard-dyn g (b.vtable, b.value)).policy b.value) c.args.guards.now)
    in
    let bytes = c.args.script.now in
    let commands = c.in-Ok.script in
    IfOk-weaker c.edit.result (λ r. Edits start commands r) (λ r. EditsBy start bytes r)
    (λ r h. inr (record { commands = commands; is = c.in-Ok.ensures; edits = h })) c.edit.ensures
