use Rattle.std.proofs.Common.{Bool, ap, ◌∙◌}
use Rattle.markdown_page.specs.declared.marks.TagName.TheVariants as tag
use Rattle.markdown_page.specs.declared.pieces.Piece.TheVariants.{Insert}
use Rattle.markdown_page.specs.Pieces.{piece_if}
use Rattle.markdown_page.proofs.PutLemmas.{said_put}
use Rattle.markdown_page.proofs.printer.MarkdownPage.put_character.Goals as goal

pub returns-clause-puts : goal.returns-clause-puts
returns-clause-puts g c =
    said_put g.K.Sink c.args.out.now c.put_piece.new.out c.put_character.new.out c.args.self.now.pen
    c.put_piece.new.self c.put_character.new.self c.args.self.now.context.seam c.args.code c.if_given-piece.result
    (c.if_given-piece.ensures ∙ ap (λ (there : Bool). piece_if there (Insert tag.Comment)) c.is_parted.ensures)
    c.put_piece.ensures c.put_character.ensures
