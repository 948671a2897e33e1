use Rattle.std.proofs.Common.{◌≡◌, ℕ, List, length, sym, subst, arith}
use Rattle.std.proofs.lemmas.Bool.{eqb-false, eqb-true}
use Rattle.glyph_units.specs.Glyphs.{unit_places}
use Rattle.html_page.specs.Printed.{PutsPlaces}
use Rattle.html_page.proofs.PutLemmas.{places_none}
use Rattle.html_page.proofs.UnitLemmas.{run_put}
use Rattle.html_page.proofs.printer.HtmlPage.put_run.Goals as goal
use Rattle.doc_bits.proofs.Public.{nil_from_length}

pub returns-then-is_empty : goal.returns-then-is_empty
returns-then-is_empty g c =
    let old = c.args.self.now in
    subst (λ (units : List ℕ). PutsPlaces g.K.Sink c.args.out.now old c.args.out.now old (unit_places c.args.to.now
    units)) (sym (nil_from_length c.args.units.now (eqb-true (length c.args.units.now) 0 (sym c.if-is_empty.ensures))))
    (places_none g.K.Sink c.args.out.now old)

pub returns : goal.returns
returns g c =
    let some = eqb-false (length c.args.units.now) 0 (sym c.if-is_empty.ensures) in
    run_put g.K.Sink c.args.out.now c.go.new.out c.put_half.new.out c.push_units.new.out c.args.self.now c.go.new.self
    c.put_half.new.self (record c.put_half.new.self { page = c.push_units.new.page }) c.args.to.now c.args.units.now
    c.requires (omega (arith, some)) c.go.ensures c.put_half.ensures.prints c.push_units.ensures c.put_half.ensures.path
    c.put_half.ensures.half c.put_half.ensures.source
