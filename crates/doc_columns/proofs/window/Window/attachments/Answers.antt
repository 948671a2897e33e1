use Rattle.std.proofs.Common.{◌∙◌, ap}
use Rattle.doc_columns.specs.declared.window.Whole.{Whole}
use Rattle.doc_columns.specs.Windows.{in_span}
use Rattle.doc_columns.proofs.WindowLemmas.{window_attachments}
use Rattle.doc_columns.proofs.window.Window.attachments.Goals as goal

pub returns : goal.returns
returns c =
    let own = c.self.inside in
    window_attachments own.whole.value own.spans c.args.self.now c.entries.result.now c.self.invariant c.self.view_is
    (c.entries.ensures
    ∙ ap (λ xs. in_span xs own.spans.attachments)
    (c.deref-2.ensures.value ∙ ap (λ (whole : Whole). whole.attachments.items) c.deref.ensures))
