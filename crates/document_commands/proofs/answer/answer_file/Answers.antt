use Rattle.std.proofs.Common.{inl, inr, sym, subst, arith}
use Rattle.std.proofs.lemmas.Result.{IfOk-weaker}
use Rattle.doc_model.specs.declared.document.Document.{Document}
use Rattle.plain_doc.specs.Sound.{IsSound}
use Rattle.doc_read.specs.Holds.{all_rules, HoldsDocument}
use Rattle.doc_read.specs.CarriedParts.{AreShortStreams}
use Rattle.doc_read.proofs.Public.{streams_short}
use Rattle.run_stages.specs.Judged.{Judges}
use Rattle.document_commands.specs.Tasks.{task_of, out_of}
use Rattle.document_commands.specs.Replies.{EndsByReply, Replies}
use Rattle.document_commands.specs.Judged.{NamesRule}
use Rattle.document_commands.specs.Answers.{AnswersFile}
use Rattle.document_commands.proofs.JudgedLemmas.{names-refused}
use Rattle.document_commands.proofs.answer.answer_file.Goals as goal

pub answer_document-ending-requires-clause-sound : goal.answer_document-ending-requires-clause-sound
answer_document-ending-requires-clause-sound c =
    subst (λ (d : Document). IsSound d) (sym c.document.ensures) c.in-Ok.ensures.sound

pub answer_document-ending-requires-clause-short : goal.answer_document-ending-requires-clause-short
answer_document-ending-requires-clause-short c =
    let short = streams_short c.args.file.now _ c.in-Ok.ensures.holds in
    subst (λ (d : Document). AreShortStreams d.carried.streams) (sym c.document.ensures) short

pub returns-in-Ok-clause-judges : goal.returns-in-Ok-clause-judges
returns-in-Ok-clause-judges c =
    let file = c.args.file.now in
    let name = c.args.name.now in
    let task = task_of c.args.task in
    let document = c.document.result.now in
    let opened = c.in-Ok.ensures in
    let holds = subst (λ (d : Document). HoldsDocument file d) (sym c.document.ensures) opened.holds in
    IfOk-weaker c.answer_document-ending.result (EndsByReply (out_of task) (Replies task name document))
    (λ e. Judges (all_rules file) name (AnswersFile task name file) e)
    (λ e h. inr (opened.accepted, record { document = document; holds = holds; answers = h }))
    c.answer_document-ending.ensures

pub returns-in-Err-clause-judges : goal.returns-in-Err-clause-judges
returns-in-Err-clause-judges c =
    let file = c.args.file.now in
    let name = c.args.name.now in
    IfOk-weaker c.refusal.result (λ e. NamesRule c.in-Err.fault name e)
    (λ e. Judges (all_rules file) name (AnswersFile (task_of c.args.task) name file) e)
    (λ e h. inl (names-refused (all_rules file) c.in-Err.fault name e c.in-Err.ensures h)) c.refusal.ensures

pub returns-in-Ok-clause-bytes : goal.returns-in-Ok-clause-bytes
returns-in-Ok-clause-bytes c i = omega (arith, c.type_inv.file i)
