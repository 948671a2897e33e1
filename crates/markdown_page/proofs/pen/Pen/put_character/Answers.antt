use Rattle.std.proofs.Common.{ap, ◌∙◌}
use Rattle.markdown_text.specs.declared.line.LineState.{LineState}
use Rattle.markdown_text.specs.Lines.{after_character}
use Rattle.markdown_page.proofs.TokenLemmas.{character_put}
use Rattle.markdown_page.proofs.pen.Pen.put_character.Goals as goal

pub returns : goal.returns
returns g c =
    character_put g.K.Sink c.args.out.now c.put_escaped.new.out c.args.self.now c.put_escaped.new.self.page
    c.after_character-self.result c.args.code c.put_escaped.ensures.prints
    (c.after_character-self.ensures
    ∙ ap (λ (line : LineState). after_character line c.args.code) c.put_escaped.ensures.line)
