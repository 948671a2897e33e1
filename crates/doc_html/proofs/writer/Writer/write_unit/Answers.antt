use Rattle.std.proofs.Common.{◌≡◌, ◌∙◌, ◌∷◌, [], sym, ap, None, Some, Option, map}
use Rattle.std.specs.List.{cons_option}
use Rattle.view_places.specs.declared.glyph.Glyph.{Glyph}
use Rattle.form_page.proofs.Public.{places_none}
use Rattle.doc_view.specs.Labels.{label_glyph}
use Rattle.doc_places.specs.Places.{shown_place}
use Rattle.doc_html.proofs.WriteLemmas.{puts_same}
use Rattle.doc_html.proofs.writer.Writer.write_unit.Goals as goal

pub returns-in-None-clause-puts : goal.returns-in-None-clause-puts
returns-in-None-clause-puts g c =
    let old = c.args.self.now in
    let none = sym c.label_glyph.ensures ∙ c.in-None.is in
    puts_same g.K.Sink c.args.out.now c.args.out.now old.page old.page [] (map (shown_place old.path) (cons_option
    (label_glyph c.args.unit) [])) (sym (ap (λ (o : Option Glyph). map (shown_place old.path) (cons_option o [])) none))
    (places_none g.K.Sink c.args.out.now old.page)

pub returns-in-Some-clause-puts : goal.returns-in-Some-clause-puts
returns-in-Some-clause-puts g c =
    let old = c.args.self.now in
    let some = sym c.label_glyph.ensures ∙ c.in-Some.is in
    puts_same g.K.Sink c.args.out.now c.put.new.out old.page c.put.new.self (shown_place old.path c.in-Some.glyph ∷ [])
    (map
    (shown_place old.path) (cons_option (label_glyph c.args.unit) [])) (sym (ap (λ (o : Option Glyph). map (shown_place
    old.path)
    (cons_option o [])) some)) c.put.ensures
