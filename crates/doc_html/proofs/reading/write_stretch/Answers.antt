-- The items of the stretch, one by one.
use Rattle.std.proofs.Common.{◌≡◌, ◌∙◌, ◌+◌, ◌≤◌, ℕ, refl, sym, arith, List, length, subst}
use Rattle.doc_columns.specs.Walks.{items_in}
use Rattle.view_places.specs.declared.element.Element.{Element}
use Rattle.doc_html.specs.Writes.{WrittenAt, IsReading, WritesItems, at, links_in}
use Rattle.doc_html.proofs.WriteLemmas.{writes_from, writes_further, writes_in, writes_start, writes_to}
use Rattle.doc_view.proofs.Public.{seen_range}
use Rattle.doc_html.proofs.reading.write_stretch.Goals as goal

pub loop-reading-init : goal.loop-reading-init
loop-reading-init g c = record {
  low = omega arith;
  within = c.requires.ahead;
  walk = refl;
  reading = c.requires.reading;
  path = refl;
  origin = refl;
  writes = λ formats istd has.
      writes_start g.K.Sink (at c.args.out.now c.args.writer.now c.args.reading.now) (links_in
      c.args.reading.now.origin (items_in c.args.text.now.parts)) c.args.writer.now.path c.args.label.now formats
      c.args.text.now.manner istd (items_in c.args.text.now.parts) c.args.reading.now.course.place;
}

pub write_some-requires-clause-reading : goal.write_some-requires-clause-reading
write_some-requires-clause-reading g c = c.loop-reading.invariant.reading

pub write_some-requires-clause-attached : goal.write_some-requires-clause-attached
write_some-requires-clause-attached g c = λ k item low until here.
    let start = c.loop-reading.invariant.low in
    c.requires.attached k item (omega (arith, start, low)) until here

pub write_some-requires-clause-depth : goal.write_some-requires-clause-depth
write_some-requires-clause-depth g c =
    subst (λ (path : List Element). length path + 8 ≤ 24) (sym c.loop-reading.invariant.path) c.requires.depth

pub loop-reading-preserved : goal.loop-reading-preserved
loop-reading-preserved g c =
    let old = c.loop-reading in
    let some = c.write_some in
    let first = c.args.reading.now.course.place in
    let at_place = old.reading.course.place in
    let low = old.invariant.low in
    let to = some.new.reading.course.place in
    let ahead = some.ensures.ahead in
    let items = items_in c.args.text.now.parts in
    let manner = c.args.text.now.manner in
    let block = c.args.writer.now.path in
    let label = c.args.label.now in
    let links = links_in c.args.reading.now.origin items in
    let a = at c.args.out.now c.args.writer.now c.args.reading.now in
    let b = at old.out old.writer old.reading in
    let d = at some.new.out some.new.writer some.new.reading in
    record {
      low = omega (arith, low, ahead);
      within = some.ensures.within;
      walk = some.ensures.walk ∙ old.invariant.walk;
      reading = some.ensures.reading;
      path = some.ensures.path ∙ old.invariant.path;
      origin = some.ensures.origin ∙ old.invariant.origin;
      writes = λ formats istd has.
          writes_further g.K.Sink a b d links block label formats manner istd items first at_place to low (omega (
            arith,
            ahead,
          )) (old.invariant.writes formats istd has)
          (writes_in g.K.Sink b d links old.writer.path block label (seen_range formats manner istd items at_place to)
          old.invariant.path
          (writes_from g.K.Sink b d old.reading.origin c.args.reading.now.origin items old.writer.path label (seen_range
          formats manner istd items at_place to) old.invariant.origin (some.ensures.writes formats istd
          (λ k x le until here. has k x (omega (arith, low, le)) until here))));
    }

pub returns-clause-reading : goal.returns-clause-reading
returns-clause-reading g c = c.loop-reading.invariant.reading

pub returns-clause-writes : goal.returns-clause-writes
returns-clause-writes g c = λ formats istd has.
    let within = c.loop-reading.invariant.within in
    let done = c.loop-reading-test.false in
    let all : c.loop-reading.reading.course.place ≡ c.args.stretch.now.until = omega (arith, within, done) in
    writes_to g.K.Sink (at c.args.out.now c.args.writer.now c.args.reading.now) (at c.loop-reading.out
    c.loop-reading.writer
    c.loop-reading.reading) (links_in c.args.reading.now.origin (items_in c.args.text.now.parts))
    c.args.writer.now.path c.args.label.now formats c.args.text.now.manner istd (items_in c.args.text.now.parts)
    c.args.reading.now.course.place c.loop-reading.reading.course.place c.args.stretch.now.until all
    (c.loop-reading.invariant.writes formats istd has)

pub returns-clause-origin : goal.returns-clause-origin
returns-clause-origin g c = c.loop-reading.invariant.origin
