use Rattle.std.proofs.Common.{◌≡◌, map}
use Rattle.std.proofs.lemmas.Result.{IfOk-weaker}
use Rattle.script_run.specs.declared.faults.RunFault.TheVariants.{Stopped}
use Rattle.script_run.specs.States.{starting_state}
use Rattle.document_commands.specs.declared.reply.Reply.TheVariants.{Made, Refused}
use Rattle.doc_run.specs.EditLines.{stop_line, edited_line}
use Rattle.doc_run.specs.Edits.{refusal_of, Edits}
use Rattle.doc_run.proofs.EditLemmas.{saved_made, stops_run}
use Rattle.doc_run.proofs.edit.edit.Goals as goal

pub returns-in-Ok : goal.returns-in-Ok
returns-in-Ok g c =
    let start =
    starting_state c.args.session (map (λ b. (goal.Guard-dyn g (b.vtable, b.value)).policy b.value) c.args.guards.now)
    in
    let commands = c.args.script.now in
    let saved = c.in-Ok.saved in
    IfOk-weaker c.reply_of_edit.result
    (λ r. r ≡ Made (edited_line saved.commands saved.saves.fast saved.saves.full) saved.image)
    (λ r. Edits start commands r) (λ r h. saved_made start commands saved r c.in-Ok.ensures.ends h)
    c.reply_of_edit.ensures

pub returns-in-Err-Stopped : goal.returns-in-Err-Stopped
returns-in-Err-Stopped g c =
    let start =
    starting_state c.args.session (map (λ b. (goal.Guard-dyn g (b.vtable, b.value)).policy b.value) c.args.guards.now)
    in
    let commands = c.args.script.now in
    let index = c.in-Err-Stopped.index in
    let stop = c.in-Err-Stopped.stop in
    let fault = c.in-Err-Stopped.field-0 in
    let is : fault ≡ Stopped index stop = cc in
    IfOk-weaker c.reply_of_stop.result (λ r. r ≡ Refused (refusal_of stop) (stop_line index stop))
    (λ r. Edits start commands r)
    (λ r h. stops_run start commands fault index stop r c.in-Err-Stopped.ensures.ends is h) c.reply_of_stop.ensures
