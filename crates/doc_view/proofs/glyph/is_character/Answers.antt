use Rattle.std.proofs.Common.{◌≡◌, ◌∙◌, sym, true}
use Rattle.doc_view.specs.Blocks.{is_itself}
use Rattle.doc_view.proofs.UnitLemmas.{itself_character}
use Rattle.doc_view.proofs.glyph.is_character.Goals as goal

pub returns : goal.returns
returns c = λ yes.
    let itself : is_itself c.args.unit ≡ true = sym c.is_itself.ensures ∙ yes in
    record { visible = itself; character = itself_character c.args.unit c.ranges.unit.fits itself }
