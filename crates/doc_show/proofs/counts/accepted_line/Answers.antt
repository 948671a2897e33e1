use Rattle.std.proofs.Common.{◌≡◌, IfOk, subst}
use Rattle.doc_model.specs.declared.document.Document.{Document}
use Rattle.doc_show.specs.Counts.{accepted_line_of}
use Rattle.doc_show.proofs.counts.accepted_line.Goals as goal

pub returns : goal.returns
returns c =
    subst (λ (d : Document). IfOk c.accepted_line_of_columns-made.result (λ text. text ≡ accepted_line_of d))
    c.in_ok-columns.ensures c.accepted_line_of_columns-made.ensures
