-- The units of a text, one by one.
use Rattle.std.proofs.Common.{◌≡◌, ◌∙◌, ◌+◌, ◌<◌, ◌∷◌, [], ℕ, List, Option, None, drop, length, refl, sym, ap, subst, arith}
use Rattle.std.specs.Prelude.{slice_index}
use Rattle.std.proofs.lemmas.List.{drop_more, drop_all}
use Rattle.page_out.specs.Printed.{Prints}
use Rattle.html_text.specs.Tokens.{printed}
use Rattle.glyph_units.specs.Units.{unit_half, unit_text, units_text}
use Rattle.html_page.specs.Pages.{characters}
use Rattle.html_page.proofs.PutLemmas.{UnitsAt, put_as, units_on, units_put, units_start}
use Rattle.html_page.proofs.printer.HtmlPage.put_units.Goals as goal
use Rattle.text_codes.specs.Halves.{half_text}

pub loop-unit-init : goal.loop-unit-init
loop-unit-init g c = record {
  units = units_start g.K.Sink c.args.out.now c.args.self.now.page (units_text c.args.self.now.half c.args.units.now);
  path = refl;
  source = refl;
}

pub loop-unit-preserved : goal.loop-unit-preserved
loop-unit-preserved g c =
    let units = c.args.units.now in
    let old = c.loop-unit in
    let i = old.unit-index in
    let put = c.put_unit in
    let within : i < length units = omega arith in
    let unit = slice_index units i in
    let next : units_text old.self.half (drop i units) ≡ units_text old.self.half (unit ∷ drop (i + 1) units) =
    ap (units_text old.self.half) (drop_more units i 0 within) in
    record {
      units =
          subst (λ (half : Option ℕ). UnitsAt g.K.Sink c.args.out.now c.args.self.now.page put.new.out put.new.self.page
          (units_text c.args.self.now.half units) (units_text half (drop (i + 1) units))) (sym put.ensures.half)
          (units_on g.K.Sink c.args.out.now old.out put.new.out c.args.self.now.page old.self.page put.new.self.page
          (units_text c.args.self.now.half units) (units_text old.self.half (drop i units)) (unit_text old.self.half unit)
          (units_text (unit_half old.self.half unit) (drop (i + 1) units)) next old.invariant.units put.ensures.prints);
      path = put.ensures.path ∙ old.invariant.path;
      source = put.ensures.source ∙ old.invariant.source;
    }

pub returns-clause-prints : goal.returns-clause-prints
returns-clause-prints g c =
    let units = c.args.units.now in
    let old = c.loop-unit in
    let end = c.put_half in
    let i = old.unit-index in
    let left : units_text old.self.half (drop i units) ≡ half_text old.self.half =
    ap (units_text old.self.half) (drop_all i units (omega arith)) in
    units_put g.K.Sink c.args.out.now old.out end.new.out c.args.self.now.page old.self.page end.new.self.page
    (units_text c.args.self.now.half units) (units_text old.self.half (drop i units)) old.invariant.units
    (put_as g.K.Sink old.out end.new.out old.self.page end.new.self.page (printed (characters (half_text
    old.self.half))) (printed (characters (units_text old.self.half (drop i units)))) (ap (λ (text : List
    ℕ). printed (characters text)) (sym left)) end.ensures.prints)

pub returns-clause-path : goal.returns-clause-path
returns-clause-path g c = c.put_half.ensures.path ∙ c.loop-unit.invariant.path

pub returns-clause-source : goal.returns-clause-source
returns-clause-source g c = c.put_half.ensures.source ∙ c.loop-unit.invariant.source
