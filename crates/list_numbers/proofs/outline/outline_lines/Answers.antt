use Rattle.std.proofs.Common.{IfOk, sym, subst}
use Rattle.doc_model.specs.declared.document.Document.{Document}
use Rattle.plain_doc.specs.Sound.{IsSound}
use Rattle.list_numbers.specs.Outline.{AreOutlineLines}
use Rattle.list_numbers.proofs.outline.outline_lines.Goals as goal

pub outline_lines_of_columns-made-requires : goal.outline_lines_of_columns-made-requires
outline_lines_of_columns-made-requires c = subst (λ (d : Document). IsSound d) (sym c.in_ok-columns.ensures) c.requires

pub returns : goal.returns
returns c =
    subst (λ (d : Document). IfOk c.outline_lines_of_columns-made.result (AreOutlineLines d)) c.in_ok-columns.ensures
    c.outline_lines_of_columns-made.ensures
