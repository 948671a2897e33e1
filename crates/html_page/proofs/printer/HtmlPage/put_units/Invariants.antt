use Rattle.std.proofs.Common.{◌≡◌, drop}
use Rattle.glyph_units.specs.Units.{units_text}
use Rattle.html_page.proofs.PutLemmas.{UnitsAt}
use Rattle.html_page.proofs.printer.HtmlPage.put_units.Given as goal

-- the units so far were put
abbrev pub invariant-loop-unit : goal.invariant-loop-unit
invariant-loop-unit g l = record {
  units : UnitsAt g.K.Sink l.fn.out l.fn.self.page l.out l.self.page (units_text l.fn.self.half l.units)
      (units_text l.self.half (drop l.unit-index l.units));
  path : l.self.path ≡ l.fn.self.path;
  source : l.self.source ≡ l.fn.self.source;
}
