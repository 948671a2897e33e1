use Rattle.std.specs.Prelude.{codes}
use Rattle.std.proofs.Common.{subst}
use Rattle.std.proofs.lemmas.Result.{IfOk-weaker}
use Rattle.doc_model.specs.declared.document.Document.{Document}
use Rattle.document_commands.specs.Saves.{Saves}
use Rattle.document_commands.specs.Summaries.{HasSummaryBytes, SavesWith}
use Rattle.document_commands.proofs.SummaryLemmas.{changed_sound}
use Rattle.document_commands.proofs.retitle.saved_with.Goals as goal

pub save_reply-reply-requires : goal.save_reply-reply-requires
save_reply-reply-requires c =
    let bytes = c.args.bytes.now in
    let changed = c.in_ok-changed.changed in
    let has = subst (λ (d : Document). HasSummaryBytes d bytes changed) c.in_ok-copy.ensures c.in_ok-changed.ensures in
    changed_sound c.args.document.now bytes changed c.requires.sound has

pub returns : goal.returns
returns c =
    let bytes = c.args.bytes.now in
    let changed = c.in_ok-changed.changed in
    let has = subst (λ (d : Document). HasSummaryBytes d bytes changed) c.in_ok-copy.ensures c.in_ok-changed.ensures in
    IfOk-weaker c.save_reply-reply.result (Saves (codes "retitle") changed) (SavesWith c.args.document.now bytes)
    (λ r h. record { changed = changed; has = has; saves = h }) c.save_reply-reply.ensures
