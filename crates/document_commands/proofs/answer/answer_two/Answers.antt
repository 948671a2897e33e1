use Rattle.std.specs.Prelude.{◌≡◌, option_map}
use Rattle.std.proofs.lemmas.Result.{IfOk-weaker}
use Rattle.document_commands.specs.Tasks.{pair_task_of, out_of_two}
use Rattle.document_commands.specs.Replies.{outcome_of, EndsByReply, RepliesTwo}
use Rattle.document_commands.proofs.OutcomeLemmas.{ends_by}
use Rattle.document_commands.proofs.answer.answer_two.Goals as goal

pub returns : goal.returns
returns c =
    let pair = pair_task_of c.args.pair in
    let such = RepliesTwo pair c.args.first.now c.args.second.now in
    IfOk-weaker c.into_ending.result (λ e. e ≡ outcome_of (option_map (λ name. name.now) c.out.result) c.in_ok-reply.reply)
    (λ e. EndsByReply (out_of_two pair) such e)
    (λ e h. ends_by (out_of_two pair) _ such _ e c.in_ok-reply.ensures c.out.ensures h) c.into_ending.ensures
