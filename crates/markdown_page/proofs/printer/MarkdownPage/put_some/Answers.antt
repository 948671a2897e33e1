-- A unit, and those that go on behind it.
use Rattle.std.proofs.Common.{◌≡◌, ◌∙◌, ◌+◌, ◌<◌, ◌≤◌, ◌∷◌, [], ℕ, true, false, List, length, subst, sym, ap, arith}
use Rattle.std.specs.Prelude.{slice_index, slice_range}
use Rattle.glyph_units.specs.Glyphs.{unit_places}
use Rattle.markdown_page.specs.Printed.{PutsPlaces}
use Rattle.markdown_page.proofs.RunLemmas.{range_next, range_plain, some_put}
use Rattle.markdown_page.specs.Runs.{is_open_line}
use Rattle.std.specs.Prelude.{not}
use Rattle.markdown_page.specs.Shape.{inner_kind, is_from_note}
use Rattle.markdown_page.proofs.printer.MarkdownPage.put_some.Goals as goal
use Rattle.doc_bits.proofs.Public.{and_first, and_second, one_range}
use Rattle.glyph_units.proofs.Public.{range_scalars}

pub returns-then-not-goes_on-clause-puts : goal.returns-then-not-goes_on-clause-puts
returns-then-not-goes_on-clause-puts g c =
    let units = c.args.units.now in
    subst (λ (us : List ℕ). PutsPlaces g.K.Sink c.args.out.now c.args.self.now c.put.new.out c.put.new.self (unit_places
    c.args.to.now us)) (sym (one_range units c.args.from c.requires.within)) c.put.ensures

pub put_plain-requires-clause-characters : goal.put_plain-requires-clause-characters
put_plain-requires-clause-characters g c =
    range_scalars c.args.units.now (c.args.from + 1) c.run_end-end.result c.requires.characters

pub put_plain-requires-clause-line : goal.put_plain-requires-clause-line
put_plain-requires-clause-line g c =
    let page = c.put.new.self in
    and_first (is_open_line page.pen.line page.context) (not (is_from_note (inner_kind c.args.to.now)))
    (sym c.if-not-goes_on.ensures)

pub put_plain-requires-clause-plain : goal.put_plain-requires-clause-plain
put_plain-requires-clause-plain g c =
    range_plain c.args.in_emphasis c.is_white.result c.args.units.now c.args.from c.run_end-end.result
    c.run_end-end.ensures.within c.run_end-end.ensures.units

pub returns-clause-puts : goal.returns-clause-puts
returns-clause-puts g c =
    let units = c.args.units.now in
    let from = c.args.from in
    let end = c.run_end-end.result in
    let put = c.put_plain in
    let page = c.put.new.self in
    subst (λ (us : List ℕ). PutsPlaces g.K.Sink c.args.out.now c.args.self.now put.new.out put.new.self (unit_places
    c.args.to.now us)) (sym (range_next units from end c.requires.within c.run_end-end.ensures.ahead))
    (some_put g.K.Sink c.args.out.now c.put.new.out put.new.out c.args.self.now page put.new.self c.args.to.now
    c.args.in_emphasis c.is_white.result units from end c.requires.emphasis
    (and_second (is_open_line page.pen.line page.context) (not (is_from_note (inner_kind c.args.to.now))) (sym
    c.if-not-goes_on.ensures)) c.is_white.ensures c.run_end-end.ensures.within c.run_end-end.ensures.units c.put.ensures
    put.ensures)
