-- The items of the stretch, one by one.
use Rattle.std.proofs.Common.{◌≡◌, ◌∙◌, refl, arith}
use Rattle.doc_columns.specs.Walks.{items_in}
use Rattle.doc_view.proofs.CourseLemmas.{passes_further, passes_start, passes_to}
use Rattle.doc_view.proofs.text.Course.push_stretch.Goals as goal

pub loop-self-init : goal.loop-self-init
loop-self-init g c = record {
  low = omega arith;
  within = c.requires.ahead;
  walk = refl;
  course = c.requires.course;
  saying = c.requires.saying;
  passes = λ formats istd has.
      passes_start g.K.Sink
      (record {
        out = c.args.out.now;
        page = c.args.page.now;
        saying = c.args.saying.now;
        references =
            c.args.self.now.references.list;
      }) formats c.args.text.now.manner istd (items_in c.args.text.now.parts)
      c.args.self.now.place c.requires.saying;
}

pub push_some-requires-clause-course : goal.push_some-requires-clause-course
push_some-requires-clause-course g c = c.loop-self.invariant.course

pub push_some-requires-clause-saying : goal.push_some-requires-clause-saying
push_some-requires-clause-saying g c = c.loop-self.invariant.saying

pub push_some-requires-clause-attached : goal.push_some-requires-clause-attached
push_some-requires-clause-attached g c = λ k item low until here.
    let start = c.loop-self.invariant.low in
    c.requires.attached k item (omega (arith, start, low)) until here

pub loop-self-preserved : goal.loop-self-preserved
loop-self-preserved g c =
    let old = c.loop-self in
    let some = c.push_some in
    let first = c.args.self.now.place in
    let at = old.self.place in
    let to = some.new.self.place in
    let low = old.invariant.low in
    let ahead = some.ensures.ahead in
    let items = items_in c.args.text.now.parts in
    let manner = c.args.text.now.manner in
    record {
      low = omega (arith, low, ahead);
      within = some.ensures.within;
      walk = some.ensures.walk ∙ old.invariant.walk;
      course = some.ensures.course;
      saying = some.ensures.saying;
      passes = λ formats istd has.
          passes_further g.K.Sink
          (record {
            out = c.args.out.now;
            page = c.args.page.now;
            saying = c.args.saying.now;
            references =
                c.args.self.now.references.list;
          })
          (record {
            out = old.out;
            page = old.page;
            saying = old.saying;
            references =
                old.self.references.list;
          })
          (record {
            out = some.new.out;
            page = some.new.page;
            saying = some.new.saying;
            references =
                some.new.self.references.list;
          })
          formats manner istd items first at to low (omega (arith, ahead))
          (old.invariant.passes formats istd has)
          (some.ensures.passes formats istd
          (λ k x le until here. has k x (omega (arith, low, le)) until here));
    }

pub returns-clause-course : goal.returns-clause-course
returns-clause-course g c = c.loop-self.invariant.course

pub returns-clause-saying : goal.returns-clause-saying
returns-clause-saying g c = c.loop-self.invariant.saying

pub returns-clause-passes : goal.returns-clause-passes
returns-clause-passes g c = λ formats istd has.
    let within = c.loop-self.invariant.within in
    let done = c.loop-self-test.false in
    let all : c.loop-self.self.place ≡ c.args.stretch.now.until = omega (arith, within, done) in
    passes_to g.K.Sink
    (record {
      out = c.args.out.now;
      page = c.args.page.now;
      saying = c.args.saying.now;
      references =
          c.args.self.now.references.list;
    })
    (record {
      out = c.loop-self.out;
      page = c.loop-self.page;
      saying = c.loop-self.saying;
      references =
          c.loop-self.self.references.list;
    })
    formats c.args.text.now.manner istd (items_in c.args.text.now.parts) c.args.self.now.place c.loop-self.self.place
    c.args.stretch.now.until all (c.loop-self.invariant.passes formats istd has)
