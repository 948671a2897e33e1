use Rattle.std.proofs.Common.{◌<◌, IfOk, length, sym, subst}
use Rattle.doc_model.specs.declared.document.Document.{Document}
use Rattle.plain_doc.specs.Sound.{IsSound}
use Rattle.doc_show.specs.Properties.{ArePropertyLines}
use Rattle.doc_show.proofs.properties.props_lines.Goals as goal

pub props_lines_of_columns-made-requires-clause-sound : goal.props_lines_of_columns-made-requires-clause-sound
props_lines_of_columns-made-requires-clause-sound c =
    subst (λ (d : Document). IsSound d) (sym c.in_ok-columns.ensures) c.requires.sound

pub props_lines_of_columns-made-requires-clause-within : goal.props_lines_of_columns-made-requires-clause-within
props_lines_of_columns-made-requires-clause-within c =
    subst (λ (d : Document). c.args.pos < length d.main) (sym c.in_ok-columns.ensures) c.requires.within

pub returns : goal.returns
returns c =
    subst (λ (d : Document). IfOk c.props_lines_of_columns-made.result (ArePropertyLines d c.args.pos))
    c.in_ok-columns.ensures c.props_lines_of_columns-made.ensures
