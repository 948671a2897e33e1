-- The items of the paragraph, stretch by stretch.
use Rattle.std.proofs.Common.{◌≡◌, ◌∙◌, ◌≤◌, sym, ap, subst, arith}
use Rattle.doc_columns.specs.Walks.{items_in, IsColumnWalk}
use Rattle.doc_columns.specs.declared.walk.Walk.{Walk}
use Rattle.doc_columns.proofs.Public.{later_walk}
use Rattle.char_formats.proofs.Public.{format_one}
use Rattle.doc_view.proofs.CourseLemmas.{passes_further, passes_start, passes_to}
use Rattle.doc_view.proofs.text.Course.push_paragraph.Goals as goal

pub loop-self-init : goal.loop-self-init
loop-self-init g c = record {
  low = omega arith;
  within = c.requires.ahead;
  walk = c.requires.walk;
  course = c.requires.course;
  saying = c.requires.saying;
  passes = λ formats are.
      passes_start g.K.Sink
      (record {
        out = c.args.out.now;
        page = c.args.page.now;
        saying = c.args.saying.now;
        references =
            c.args.self.now.references.list;
      }) formats c.args.text.now.manner c.args.bounds.istd
      (items_in c.args.text.now.parts) c.args.self.now.place c.requires.saying;
}

pub loop-self-preserved : goal.loop-self-preserved
loop-self-preserved g c =
    let old = c.loop-self in
    let next = c.push_stretch in
    let alike = c.alike_from-alike in
    let parts = c.args.text.now.parts in
    let items = items_in parts in
    let manner = c.args.text.now.manner in
    let istd = c.args.bounds.istd in
    let first = c.args.self.now.place in
    let at = old.self.place in
    let to = next.new.self.place in
    let low = old.invariant.low in
    let some = alike.ensures.some in
    let more = c.loop-self-test.true in
    let place = next.ensures.place in
    let least = c.min.ensures in
    let ahead : at ≤ to = omega (arith, some, more, place, least) in
    record {
      low = omega (arith, low, ahead);
      within = omega (arith, place, least);
      walk =
          subst (λ (w : Walk). IsColumnWalk parts w to) (sym next.ensures.walk)
          (later_walk parts alike.new.walk at to alike.ensures.walk ahead);
      course = next.ensures.course;
      saying = next.ensures.saying;
      passes = λ formats are.
          passes_further g.K.Sink
          (record {
            out = c.args.out.now;
            page = c.args.page.now;
            saying = c.args.saying.now;
            references =
                c.args.self.now.references.list;
          })
          (record { out = old.out; page = old.page; saying = old.saying; references = old.self.references.list })
          (record {
            out = next.new.out;
            page = next.new.page;
            saying = next.new.saying;
            references =
                next.new.self.references.list;
          })
          formats manner istd items first at to low ahead (old.invariant.passes formats are)
          (passes_to g.K.Sink
          (record { out = old.out; page = old.page; saying = old.saying; references = old.self.references.list })
          (record {
            out = next.new.out;
            page = next.new.page;
            saying = next.new.saying;
            references =
                next.new.self.references.list;
          })
          formats manner istd items at c.min.result to (sym place)
          (next.ensures.passes formats istd
          (λ k item le until here. ap (formats istd) (alike.ensures.chps k item le (omega (arith, until, least)) here)
          ∙ format_one c.args.text.now.formats.now istd alike.result.chp.now (formats istd alike.result.chp.now)
          c.format.result (are.right istd alike.result.chp.now c.requires.style) c.format.ensures)));
    }

pub returns-clause-passes : goal.returns-clause-passes
returns-clause-passes g c = λ formats are.
    let within = c.loop-self.invariant.within in
    let done = c.loop-self-test.false in
    let all : c.loop-self.self.place ≡ c.args.bounds.end = omega (arith, within, done) in
    passes_to g.K.Sink
    (record {
      out = c.args.out.now;
      page = c.args.page.now;
      saying = c.args.saying.now;
      references =
          c.args.self.now.references.list;
    })
    (record {
      out = c.loop-self.out;
      page = c.loop-self.page;
      saying = c.loop-self.saying;
      references =
          c.loop-self.self.references.list;
    })
    formats c.args.text.now.manner c.args.bounds.istd (items_in c.args.text.now.parts) c.args.self.now.place
    c.loop-self.self.place c.args.bounds.end all (c.loop-self.invariant.passes formats are)
