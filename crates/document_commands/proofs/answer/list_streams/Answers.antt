use Rattle.std.proofs.Common.{inl}
use Rattle.std.proofs.lemmas.Result.{IfOk-weaker}
use Rattle.run_stages.specs.Judged.{Judges}
use Rattle.document_commands.specs.Judged.{NamesRule, rules_by_place}
use Rattle.document_commands.specs.Answers.{ListsStreams}
use Rattle.document_commands.proofs.JudgedLemmas.{names-refused}
use Rattle.document_commands.proofs.answer.list_streams.Goals as goal

pub returns-in-Err-clause-judges : goal.returns-in-Err-clause-judges
returns-in-Err-clause-judges c =
    let file = c.args.file.now in
    let name = c.args.name.now in
    IfOk-weaker c.refusal.result (λ e. NamesRule c.in-Err.fault name e)
    (λ e. Judges (rules_by_place file) name (ListsStreams file) e)
    (λ e h. inl (names-refused (rules_by_place file) c.in-Err.fault name e c.in-Err.ensures h)) c.refusal.ensures
