use Rattle.std.proofs.Common.{ap, ◌∙◌}
use Rattle.markdown_text.specs.declared.line.LineState.{LineState}
use Rattle.markdown_page.specs.declared.context.Context.{Context}
use Rattle.markdown_page.specs.Contexts.{cut}
use Rattle.markdown_page.specs.Pieces.{other_pieces}
use Rattle.markdown_page.proofs.PutLemmas.{behind_put}
use Rattle.markdown_page.proofs.printer.MarkdownPage.put_other.Goals as goal

pub returns-clause-puts : goal.returns-clause-puts
returns-clause-puts g c =
    behind_put g.K.Sink c.args.out.now c.put_half.new.out c.put_pieces.new.out c.args.self.now c.put_half.new.self
    c.put_pieces.new.self (λ (line : LineState) (context : Context). other_pieces line c.args.glyph)
    c.other_pieces-pieces.result c.put_half.ensures.puts c.put_half.ensures.context c.other_pieces-pieces.ensures
    c.put_pieces.ensures

pub returns-clause-context : goal.returns-clause-context
returns-clause-context g c = c.cut-self.ensures ∙ ap cut c.put_half.ensures.context
