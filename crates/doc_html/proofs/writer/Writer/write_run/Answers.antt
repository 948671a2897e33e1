use Rattle.std.proofs.Common.{◌≡◌, ◌++◌, List, ap, subst, ◌∙◌, length, take, ℕ}
use Rattle.std.proofs.Math.Seq.{take-append_seam}
use Rattle.view_places.specs.declared.element.Element.{Element}
use Rattle.glyph_units.specs.Glyphs.{unit_places}
use Rattle.doc_places.specs.Places.{format_elements, link_elements}
use Rattle.form_page.specs.Forms.{PutsPlaces}
use Rattle.doc_html.proofs.writer.Writer.write_run.Goals as goal

pub returns-clause-path : goal.returns-clause-path
returns-clause-path g c =
    let old = c.args.self.now.path in
    let more = link_elements c.args.link ++ format_elements c.args.format.now in
    let depth : c.len-depth.result ≡ length old = c.len-depth.ensures.len in
    c.truncate.ensures ∙ ap (λ (n : ℕ). take n c.push_inline.new.path) depth ∙ ap (take (length old)) c.push_inline.ensures
    ∙ take-append_seam old more

pub returns-clause-puts : goal.returns-clause-puts
returns-clause-puts g c =
    subst (λ (path : List Element). PutsPlaces g.K.Sink c.args.out.now c.args.self.now.page c.put_run.new.out
    c.put_run.new.self (unit_places path c.args.units.now)) c.push_inline.ensures c.put_run.ensures
