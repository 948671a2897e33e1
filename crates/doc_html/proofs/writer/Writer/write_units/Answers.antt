-- The units of a label, one by one.
use Rattle.std.proofs.Common.{◌≡◌, ◌∙◌, ◌+◌, ◌<◌, ◌++◌, [], List, length, take, map, refl, subst, arith}
use Rattle.std.specs.Prelude.{slice_index}
use Rattle.std.specs.List.{cons_option, filter_map}
use Rattle.view_places.specs.declared.element.Element.{Element}
use Rattle.form_page.specs.Forms.{PutsPlaces}
use Rattle.form_page.proofs.Public.{places_none, places_then}
use Rattle.doc_view.specs.Labels.{label_glyph}
use Rattle.doc_places.specs.Places.{shown_place}
use Rattle.doc_html.proofs.LabelLemmas.{units_on}
use Rattle.doc_html.proofs.WriteLemmas.{puts_same}
use Rattle.doc_html.proofs.writer.Writer.write_units.Goals as goal

pub loop-unit-init : goal.loop-unit-init
loop-unit-init g c = record { path = refl; puts = places_none g.K.Sink c.args.out.now c.args.self.now.page }

pub loop-unit-preserved : goal.loop-unit-preserved
loop-unit-preserved g c =
    let old = c.loop-unit in
    let units = c.args.units.now in
    let path = c.args.self.now.path in
    let i = old.unit-index in
    let put = c.write_unit in
    let unit = slice_index units i in
    let within : i < length units = omega arith in
    let before = map (shown_place path) (filter_map label_glyph (take i units)) in
    let here = map (shown_place path) (cons_option (label_glyph unit) []) in
    let one : PutsPlaces g.K.Sink old.out old.self.page put.new.out put.new.self.page here =
    subst (λ (p : List Element). PutsPlaces g.K.Sink old.out old.self.page put.new.out put.new.self.page (map
    (shown_place p)
    (cons_option (label_glyph unit) []))) old.invariant.path put.ensures.puts in
    record {
      path = put.ensures.path ∙ old.invariant.path;
      puts =
          puts_same g.K.Sink c.args.out.now put.new.out c.args.self.now.page put.new.self.page (before ++ here) (map
          (shown_place path) (filter_map label_glyph (take (i + 1) units))) (units_on path units i within)
          (places_then g.K.Sink c.args.out.now old.out put.new.out c.args.self.now.page old.self.page put.new.self.page
          before here old.invariant.puts one);
    }
