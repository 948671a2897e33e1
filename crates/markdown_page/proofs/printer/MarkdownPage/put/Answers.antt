use Rattle.std.proofs.Common.{◌≡◌, Option, Some, None, ap, sym, ◌∙◌}
use Rattle.view_places.specs.declared.glyph.Glyph.{Glyph}
use Rattle.markdown_page.specs.declared.shape.Kind.{Kind}
use Rattle.markdown_page.specs.Shape.{shaped_glyph}
use Rattle.markdown_page.proofs.PutLemmas.{place_bare, place_shown}
use Rattle.markdown_page.proofs.printer.MarkdownPage.put.Goals as goal

pub returns-in-None : goal.returns-in-None
returns-in-None g c =
    place_bare g.K.Sink c.args.out.now c.go.new.out c.args.self.now c.go.new.self c.args.to.now
    c.shaped_path-shaped.result c.args.glyph c.shaped_path-shaped.ensures
    (ap (λ (inner : Kind). shaped_glyph inner c.args.glyph) (sym c.inner_kind.ensures) ∙ sym c.shaped_glyph.ensures
    ∙ c.in-None.is) c.go.ensures

pub returns-in-Some : goal.returns-in-Some
returns-in-Some g c =
    place_shown g.K.Sink c.args.out.now c.go.new.out c.show.new.out c.args.self.now c.go.new.self c.show.new.self
    c.args.to.now c.shaped_path-shaped.result c.args.glyph c.in-Some.glyph c.shaped_path-shaped.ensures
    (ap (λ (inner : Kind). shaped_glyph inner c.args.glyph) (sym c.inner_kind.ensures) ∙ sym c.shaped_glyph.ensures
    ∙ c.in-Some.is) c.go.ensures c.show.ensures.puts c.show.ensures.path c.show.ensures.document
    c.show.ensures.context
