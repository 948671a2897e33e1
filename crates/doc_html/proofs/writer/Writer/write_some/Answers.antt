use Rattle.std.proofs.Common.{◌≡◌, ◌∷◌, ◌++◌, [], ◌<◌, length, map, sym, arith}
use Rattle.view_places.specs.declared.element.Element.TheVariants.{Label}
use Rattle.std.proofs.lemmas.Bool.{eqb-true, eqb-false}
use Rattle.form_page.proofs.Public.{places_none}
use Rattle.doc_view.specs.Labels.{label_glyphs}
use Rattle.doc_places.specs.Places.{label_places, shown_place}
use Rattle.doc_html.proofs.LabelLemmas.{no_label, some_label}
use Rattle.doc_html.proofs.WriteLemmas.{puts_same}
use Rattle.doc_html.proofs.writer.Writer.write_some.Goals as goal

pub returns-then-is_empty-clause-puts : goal.returns-then-is_empty-clause-puts
returns-then-is_empty-clause-puts g c =
    let old = c.args.self.now in
    puts_same g.K.Sink c.args.out.now c.args.out.now old.page old.page [] (label_places old.path c.args.label.now)
    (sym (no_label old.path c.args.label.now (eqb-true (length c.args.label.now) 0 (sym c.if-is_empty.ensures)))) (places_none g.K.Sink c.args.out.now old.page)

pub returns-clause-puts : goal.returns-clause-puts
returns-clause-puts g c =
    let old = c.args.self.now in
    let put = c.write_label in
    let some = eqb-false (length c.args.label.now) 0 (sym c.if-is_empty.ensures) in
    puts_same g.K.Sink c.args.out.now put.new.out old.page put.new.self.page (map (shown_place (old.path ++ Label ∷ []))
    (label_glyphs c.args.label.now)) (label_places old.path c.args.label.now)
    (sym (some_label old.path c.args.label.now (omega (arith, some)))) put.ensures.puts
