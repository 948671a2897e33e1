use Rattle.std.proofs.Common.{◌≡◌, refl, Some}
use Rattle.std.proofs.lemmas.Result.{IfOk-weaker}
use Rattle.document_commands.specs.Replies.{outcome_of, EndsByReply}
use Rattle.document_commands.proofs.Public.{ends_by}
use Rattle.doc_run.specs.Generates.{Generates}
use Rattle.doc_run.proofs.generated.generate_under.Goals as goal

pub returns : goal.returns
returns c =
    let out = Some c.args.out.now in
    let reply = c.in_ok-reply.reply in
    let such = Generates c.args.seed in
    IfOk-weaker c.into_ending.result (λ e. e ≡ outcome_of out reply) (λ e. EndsByReply out such e)
    (λ e h. ends_by out out such reply e c.in_ok-reply.ensures refl h) c.into_ending.ensures
