use Rattle.std.proofs.Common.{IfOk, sym, subst}
use Rattle.doc_model.specs.declared.document.Document.{Document}
use Rattle.plain_doc.specs.Sound.{IsSound}
use Rattle.list_numbers.specs.Numbers.{AreNumbers}
use Rattle.list_numbers.proofs.document_numbers.numbers.Goals as goal

pub numbers_of_columns-made-requires : goal.numbers_of_columns-made-requires
numbers_of_columns-made-requires c = subst (λ (d : Document). IsSound d) (sym c.in_ok-columns.ensures) c.requires

pub returns : goal.returns
returns c =
    subst (λ (d : Document). IfOk c.numbers_of_columns-made.result (AreNumbers d)) c.in_ok-columns.ensures
    c.numbers_of_columns-made.ensures
