use Rattle.std.proofs.Common.{◌≡◌, [], ap, ◌∙◌}
use Rattle.view_paths.specs.Events.{Close}
use Rattle.doc_model.specs.declared.document.Document.{Document}
use Rattle.markdown_page.specs.declared.context.Context.{Context}
use Rattle.markdown_page.specs.Contexts.{closed}
use Rattle.markdown_page.specs.Destinations.{address_at, link_end_tokens}
use Rattle.markdown_page.specs.Pages.{tokens_behind, turn_pieces}
use Rattle.markdown_page.specs.Printed.{state_in}
use Rattle.markdown_page.proofs.PutLemmas.{behind_put, turn_put}
use Rattle.markdown_page.proofs.printer.MarkdownPage.put_close.Goals as goal

pub returns-clause-puts : goal.returns-clause-puts
returns-clause-puts g c =
    let old = c.args.self.now in
    let half = c.put_half in
    let pieces = c.put_pieces in
    turn_put g.K.Sink c.args.out.now pieces.new.out c.put_link_end.new.out old pieces.new.self c.put_link_end.new.self.pen
    (tokens_behind (state_in old) (turn_pieces (Close [] c.args.element))) half.new.self.document.now
    (λ (document : Document). link_end_tokens (address_at document c.args.element))
    (behind_put g.K.Sink c.args.out.now half.new.out pieces.new.out old half.new.self pieces.new.self
    (turn_pieces (Close [] c.args.element)) c.closing-pieces.result half.ensures.puts half.ensures.context
    c.closing-pieces.ensures pieces.ensures) half.ensures.document c.put_link_end.ensures.puts

pub returns-clause-context : goal.returns-clause-context
returns-clause-context g c =
    c.put_link_end.ensures.context ∙ c.closed-self.ensures
    ∙ ap (λ (context : Context). closed context c.args.element) c.put_half.ensures.context

pub returns-clause-path : goal.returns-clause-path
returns-clause-path g c = c.put_link_end.ensures.path ∙ c.put_half.ensures.path

pub returns-clause-document : goal.returns-clause-document
returns-clause-document g c = c.put_link_end.ensures.document ∙ c.put_half.ensures.document
