use Rattle.std.proofs.Common.{inr, subst}
use Rattle.std.proofs.lemmas.Result.{IfOk-weaker}
use Rattle.doc_read.specs.Holds.{all_rules}
use Rattle.document_commands.specs.Tasks.{pair_task_of, out_of_two}
use Rattle.document_commands.specs.Replies.{EndsByReply, RepliesTwo}
use Rattle.run_stages.specs.Judged.{Judges}
use Rattle.document_commands.specs.Judged.{IsJudgedFile}
use Rattle.doc_run.specs.Reading.{AnswersBeside}
use Rattle.doc_run.proofs.serve.answer_second.Goals as goal

pub returns-in-Go-clause-judges : goal.returns-in-Go-clause-judges
returns-in-Go-clause-judges c =
    let name = c.args.name.now in
    let file = c.args.file.now in
    let pair = pair_task_of c.args.pair in
    let first = c.args.first.now in
    let second = c.in-Go.second in
    let is = subst (λ r. IsJudgedFile name file r) c.in-Go.is c.in_ok-reached.ensures.is in
    IfOk-weaker c.answer_two-ending.result (λ e. EndsByReply (out_of_two pair) (RepliesTwo pair first second) e)
    (λ e. Judges (all_rules file) name (AnswersBeside pair first file) e)
    (λ e h. inr (is.0, record { second = second; holds = is.1.0; answers = h })) c.answer_two-ending.ensures
