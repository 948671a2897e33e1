use Rattle.std.proofs.Common.{◌∙◌}
use Rattle.document_commands.specs.Tasks.{task_of, out_of}
use Rattle.document_commands.specs.Replies.{Replies}
use Rattle.document_commands.proofs.OutcomeLemmas.{ends_by}
use Rattle.document_commands.proofs.answer.answer_document.Goals as goal

pub returns : goal.returns
returns c =
    let task = task_of c.args.task.now in
    let such = Replies task c.args.name.now c.args.document.now in
    ends_by (out_of task) _ such c.in_ok-reply.reply _ c.in_ok-reply.ensures c.out.ensures
    (c.with_warnings.ensures ∙ c.in_ok-ending.ensures)
