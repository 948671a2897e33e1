use Rattle.std.proofs.Common.{◌≡◌, ℕ, Option, Some, None, sym, subst, ◌∙◌}
use Rattle.glyph_units.specs.Glyphs.{unit_in}
use Rattle.markdown_page.specs.Pages.{glyph_shown, glyph_tokens}
use Rattle.markdown_page.specs.Printed.{PutsTokens, state_in}
use Rattle.markdown_page.proofs.printer.MarkdownPage.show.Goals as goal

pub returns-in-Some-clause-puts : goal.returns-in-Some-clause-puts
returns-in-Some-clause-puts g c =
    subst (λ (unit : Option ℕ). PutsTokens g.K.Sink c.args.out.now c.args.self.now.pen c.put_unit.new.out
    c.put_unit.new.self.pen (glyph_tokens (state_in c.args.self.now) unit c.args.glyph))
    (sym c.in-Some.is ∙ c.unit_in.ensures) c.put_unit.ensures.puts

pub returns-in-Some-clause-context : goal.returns-in-Some-clause-context
returns-in-Some-clause-context g c =
    subst (λ (unit : Option ℕ). c.put_unit.new.self.context ≡ glyph_shown c.args.self.now.context unit)
    (sym c.in-Some.is ∙ c.unit_in.ensures) c.put_unit.ensures.context

pub returns-in-None-clause-puts : goal.returns-in-None-clause-puts
returns-in-None-clause-puts g c =
    subst (λ (unit : Option ℕ). PutsTokens g.K.Sink c.args.out.now c.args.self.now.pen c.put_other.new.out
    c.put_other.new.self.pen (glyph_tokens (state_in c.args.self.now) unit c.args.glyph))
    (sym c.in-None.is ∙ c.unit_in.ensures) c.put_other.ensures.puts

pub returns-in-None-clause-context : goal.returns-in-None-clause-context
returns-in-None-clause-context g c =
    subst (λ (unit : Option ℕ). c.put_other.new.self.context ≡ glyph_shown c.args.self.now.context unit)
    (sym c.in-None.is ∙ c.unit_in.ensures) c.put_other.ensures.context
