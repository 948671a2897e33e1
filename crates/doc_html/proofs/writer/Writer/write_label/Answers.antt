-- A label of some units, and a space behind it.
use Rattle.std.proofs.Common.{◌≡◌, ◌∙◌, ◌++◌, ◌∷◌, [], List, ℕ, length, take, map, ap, subst, sym}
use Rattle.std.proofs.Math.Seq.{take-append_seam}
use Rattle.std.specs.List.{filter_map}
use Rattle.view_places.specs.declared.element.Element.{Element}
use Rattle.view_places.specs.declared.element.Element.TheVariants.{Label}
use Rattle.view_places.specs.declared.glyph.Glyph.TheVariants.{Unit}
use Rattle.form_page.specs.Forms.{PutsPlaces}
use Rattle.form_page.proofs.Public.{places_then}
use Rattle.doc_view.specs.Labels.{label_glyph, label_glyphs}
use Rattle.doc_places.specs.Places.{shown_place}
use Rattle.doc_html.proofs.LabelLemmas.{label_whole}
use Rattle.doc_html.proofs.WriteLemmas.{puts_same}
use Rattle.doc_html.proofs.writer.Writer.write_label.Goals as goal

pub returns-clause-path : goal.returns-clause-path
returns-clause-path g c =
    let old = c.args.self.now.path in
    let depth : c.len-depth.result ≡ length old = c.len-depth.ensures.len in
    c.truncate.ensures ∙ (λ i. take (depth i) ((c.write_units.ensures.path ∙ c.push.ensures) i))
    ∙ take-append_seam old (Label ∷ [])

pub returns-clause-puts : goal.returns-clause-puts
returns-clause-puts g c =
    let old = c.args.self.now in
    let units = c.write_units in
    let put = c.put in
    let path = old.path ++ Label ∷ [] in
    let label = c.args.label.now in
    let first : PutsPlaces g.K.Sink c.args.out.now old.page units.new.out units.new.self.page (map (shown_place path)
    (filter_map label_glyph label)) =
    subst (λ (p : List Element). PutsPlaces g.K.Sink c.args.out.now old.page units.new.out units.new.self.page (map
    (shown_place p) (filter_map label_glyph label))) c.push.ensures units.ensures.puts in
    let space : PutsPlaces g.K.Sink units.new.out units.new.self.page put.new.out put.new.self (shown_place path (Unit
    0x20) ∷
    []) =
    subst (λ (p : List Element). PutsPlaces g.K.Sink units.new.out units.new.self.page put.new.out put.new.self
    (shown_place p
    (Unit 0x20) ∷ [])) (units.ensures.path ∙ c.push.ensures) put.ensures in
    puts_same g.K.Sink c.args.out.now put.new.out old.page put.new.self (map (shown_place path) (filter_map label_glyph
    label)
    ++ shown_place path (Unit 0x20) ∷ []) (map (shown_place path) (label_glyphs label)) (label_whole path label)
    (places_then g.K.Sink c.args.out.now units.new.out put.new.out old.page units.new.self.page put.new.self (map
    (shown_place
    path) (filter_map label_glyph label)) (shown_place path (Unit 0x20) ∷ []) first space)
