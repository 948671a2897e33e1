use Rattle.std.proofs.Common.{◌≡◌, take, map}
use Rattle.std.specs.List.{filter_map}
use Rattle.form_page.specs.Forms.{PutsPlaces}
use Rattle.doc_view.specs.Labels.{label_glyph}
use Rattle.doc_places.specs.Places.{shown_place}
use Rattle.doc_html.proofs.writer.Writer.write_units.Given as goal

-- the units so far were written
abbrev pub invariant-loop-unit : goal.invariant-loop-unit
invariant-loop-unit g l = record {
  path : l.self.path ≡ l.fn.self.path;
  puts : PutsPlaces g.K.Sink l.fn.out l.fn.self.page l.out l.self.page
      (map (shown_place l.fn.self.path) (filter_map label_glyph (take l.unit-index l.units)));
}
