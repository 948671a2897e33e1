use Rattle.std.proofs.Common.{ap}
use Rattle.markdown_page.specs.Marks.{mark_text}
use Rattle.markdown_page.specs.Pieces.{markup}
use Rattle.markdown_page.proofs.TokenLemmas.{tokens_as}
use Rattle.markdown_page.proofs.pen.Pen.put_mark.Goals as goal

pub returns : goal.returns
returns g c =
    tokens_as g.K.Sink c.args.out.now c.put_markup.new.out c.args.self.now c.put_markup.new.self
    (markup c.mark_text.result.now) (markup (mark_text c.args.mark)) (ap markup c.mark_text.ensures.is)
    c.put_markup.ensures
