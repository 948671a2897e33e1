use Rattle.markdown_page.proofs.TokenLemmas.{markup_put}
use Rattle.markdown_page.proofs.pen.Pen.put_markup.Goals as goal

pub returns : goal.returns
returns g c =
    markup_put g.K.Sink c.args.out.now c.push_ascii.new.out c.args.self.now c.push_ascii.new.self c.after_markup-self.result
    c.args.text.now c.push_ascii.ensures c.after_markup-self.ensures
