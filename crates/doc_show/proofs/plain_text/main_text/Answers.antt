use Rattle.std.proofs.Common.{◌≡◌, IfOk, subst}
use Rattle.doc_model.specs.declared.document.Document.{Document}
use Rattle.doc_show.specs.MainText.{main_text_of}
use Rattle.doc_show.proofs.plain_text.main_text.Goals as goal

pub returns : goal.returns
returns c =
    subst (λ (d : Document). IfOk c.main_text_of_columns-made.result (λ text. text ≡ main_text_of d))
    c.in_ok-columns.ensures
    c.main_text_of_columns-made.ensures
