use Rattle.std.proofs.Common.{◌≡◌}
use Rattle.std.specs.Prelude.{codes}
use Rattle.std.proofs.lemmas.Result.{IfOk-weaker}
use Rattle.document_commands.specs.declared.reply.Reply.{Reply}
use Rattle.document_commands.specs.declared.reply.Reply.TheVariants.{Refused}
use Rattle.document_commands.specs.declared.reply.Refusal.TheVariants.{Unsound}
use Rattle.run_stages.specs.Lines.{rule_line}
use Rattle.document_commands.specs.Joins.{Joins}
use Rattle.document_commands.proofs.JoinLemmas.{unsound_said}
use Rattle.document_commands.proofs.joining.join_reply.Goals as goal

pub returns-in-Err-Unsound : goal.returns-in-Err-Unsound
returns-in-Err-Unsound c =
    let first = c.args.first.now in
    let second = c.args.second.now in
    let fault = c.in-Err-Unsound in
    IfOk-weaker c.unsound.result
    (λ (r : Reply). r ≡ Refused Unsound (rule_line (codes "join") fault.rule (fault.place, fault.at)))
    (Joins first second)
    (λ r h. unsound_said first second fault.field-0 fault.rule fault.place fault.at r fault.ensures fault.field-0-is h)
    c.unsound.ensures
