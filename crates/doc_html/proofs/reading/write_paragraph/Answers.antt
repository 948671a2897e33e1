-- The items of the paragraph, stretch by stretch.
use Rattle.std.proofs.Common.{◌≡◌, ◌∙◌, ◌+◌, ◌≤◌, ℕ, refl, sym, ap, subst, arith, List, length}
use Rattle.doc_columns.specs.Walks.{items_in, IsColumnWalk}
use Rattle.doc_columns.specs.declared.walk.Walk.{Walk}
use Rattle.doc_columns.proofs.Public.{later_walk}
use Rattle.char_formats.proofs.Public.{format_one}
use Rattle.view_places.specs.declared.element.Element.{Element}
use Rattle.doc_html.specs.Writes.{WrittenAt, IsReading, WritesItems, at, links_in}
use Rattle.doc_html.proofs.WriteLemmas.{reading_walk, writes_from, writes_further, writes_in, writes_start, writes_to}
use Rattle.doc_view.proofs.Public.{seen_range}
use Rattle.doc_html.proofs.reading.write_paragraph.Goals as goal

pub loop-reading-init : goal.loop-reading-init
loop-reading-init g c = record {
  low = omega arith;
  within = c.requires.ahead;
  walk = c.requires.walk;
  reading = c.requires.reading;
  path = refl;
  origin = refl;
  writes = λ formats are.
      writes_start g.K.Sink (at c.args.out.now c.args.writer.now c.args.reading.now) (links_in
      c.args.reading.now.origin (items_in c.args.text.now.parts)) c.args.writer.now.path c.args.label.now formats
      c.args.text.now.manner c.args.bounds.istd (items_in c.args.text.now.parts) c.args.reading.now.course.place;
}

pub write_stretch-requires-clause-reading : goal.write_stretch-requires-clause-reading
write_stretch-requires-clause-reading g c =
    reading_walk c.args.text.now.manner (items_in c.args.text.now.parts) c.loop-reading.reading
    c.alike_from-alike.new.walk
    c.loop-reading.invariant.reading

pub write_stretch-requires-clause-attached : goal.write_stretch-requires-clause-attached
write_stretch-requires-clause-attached g c = λ k item low until here.
    let least = c.min.ensures in
    c.alike_from-alike.ensures.attachments k item low (omega (arith, until, least)) here

pub write_stretch-requires-clause-depth : goal.write_stretch-requires-clause-depth
write_stretch-requires-clause-depth g c =
    subst (λ (path : List Element). length path + 8 ≤ 24) (sym c.loop-reading.invariant.path) c.requires.depth

pub loop-reading-preserved : goal.loop-reading-preserved
loop-reading-preserved g c =
    let old = c.loop-reading in
    let next = c.write_stretch in
    let alike = c.alike_from-alike in
    let parts = c.args.text.now.parts in
    let items = items_in parts in
    let manner = c.args.text.now.manner in
    let istd = c.args.bounds.istd in
    let first = c.args.reading.now.course.place in
    let at_place = old.reading.course.place in
    let to = next.new.reading.course.place in
    let low = old.invariant.low in
    let some = alike.ensures.some in
    let more = c.loop-reading-test.true in
    let place = next.ensures.place in
    let least = c.min.ensures in
    let ahead : at_place ≤ to = omega (arith, some, more, place, least) in
    let block = c.args.writer.now.path in
    let label = c.args.label.now in
    let links = links_in c.args.reading.now.origin items in
    let a = at c.args.out.now c.args.writer.now c.args.reading.now in
    let b = at old.out old.writer old.reading in
    let d = at next.new.out next.new.writer next.new.reading in
    record {
      low = omega (arith, low, ahead);
      within = omega (arith, place, least);
      walk =
          subst (λ (w : Walk). IsColumnWalk parts w to) (sym next.ensures.walk)
          (later_walk parts alike.new.walk at_place to alike.ensures.walk ahead);
      reading = next.ensures.reading;
      path = next.ensures.path ∙ old.invariant.path;
      origin = next.ensures.origin ∙ old.invariant.origin;
      writes = λ formats are.
          writes_further g.K.Sink a b d links block label formats manner istd items first at_place to low ahead
          (old.invariant.writes formats are)
          (writes_to g.K.Sink b d links block label formats manner istd items at_place c.min.result to (sym place)
          (writes_in g.K.Sink b d links old.writer.path block label (seen_range formats manner istd items at_place c.min.result)
          old.invariant.path
          (writes_from g.K.Sink b d old.reading.origin c.args.reading.now.origin items old.writer.path label (seen_range
          formats manner istd items at_place c.min.result) old.invariant.origin (next.ensures.writes formats istd
          (λ k item le until here. ap (formats istd) (alike.ensures.chps k item le (omega (arith, until, least)) here)
          ∙ format_one c.args.text.now.formats.now istd alike.result.chp.now (formats istd alike.result.chp.now)
          c.format.result (are.right istd alike.result.chp.now c.requires.style) c.format.ensures)))));
    }

pub returns-clause-writes : goal.returns-clause-writes
returns-clause-writes g c = λ formats are.
    let within = c.loop-reading.invariant.within in
    let done = c.loop-reading-test.false in
    let all : c.loop-reading.reading.course.place ≡ c.args.bounds.end = omega (arith, within, done) in
    writes_to g.K.Sink (at c.args.out.now c.args.writer.now c.args.reading.now) (at c.loop-reading.out
    c.loop-reading.writer
    c.loop-reading.reading) (links_in c.args.reading.now.origin (items_in c.args.text.now.parts))
    c.args.writer.now.path c.args.label.now formats c.args.text.now.manner c.args.bounds.istd
    (items_in c.args.text.now.parts) c.args.reading.now.course.place c.loop-reading.reading.course.place
    c.args.bounds.end all
    (c.loop-reading.invariant.writes formats are)

pub returns-clause-origin : goal.returns-clause-origin
returns-clause-origin g c = c.loop-reading.invariant.origin
