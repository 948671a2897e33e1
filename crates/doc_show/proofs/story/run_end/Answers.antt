-- The run goes on while items are plain and have the same properties.
use Rattle.std.proofs.Common.{sym, arith}
use Rattle.doc_columns.specs.Walks.{items_in}
use Rattle.doc_columns.proofs.Public.{later_walk}
use Rattle.doc_show.proofs.StoryLemmas.{alike_by, alike_on, alike_joined, alike_ends}
use Rattle.doc_show.proofs.story.run_end.Goals as goal

pub loop-until-init : goal.loop-until-init
loop-until-init c =
    let parts = c.args.parts.now in
    let first = c.args.first.now in
    let some = c.requires.some in
    let before = c.requires.before in
    record {
      walk = later_walk parts c.args.walk.now c.args.place first.end c.requires.walk (omega (arith, some));
      before = later_walk parts c.args.walk.now c.args.place c.args.end c.requires.walk (omega (arith, before));
      some = some;
      alike =
          alike_by (items_in parts) c.args.place first.end first.chp.now first.attached.now
          (sym c.if-not-is_plain.ensures) c.requires.chps c.requires.attachments;
    }

pub alike_from-next-requires-clause-walk : goal.alike_from-next-requires-clause-walk
alike_from-next-requires-clause-walk c = c.loop-until.invariant.walk

pub returns-then-not-goes_on-clause-some : goal.returns-then-not-goes_on-clause-some
returns-then-not-goes_on-clause-some c = c.loop-until.invariant.some

pub returns-then-not-goes_on-clause-joined : goal.returns-then-not-goes_on-clause-joined
returns-then-not-goes_on-clause-joined c =
    alike_joined (items_in c.args.parts.now) c.args.place c.loop-until.until c.args.first.now.chp.now
    c.loop-until.invariant.alike

pub returns-then-not-goes_on-clause-ends : goal.returns-then-not-goes_on-clause-ends
returns-then-not-goes_on-clause-ends c = λ low.
    let next = c.alike_from-next in
    alike_ends (items_in c.args.parts.now) c.args.place c.loop-until.until next.result.end
    c.args.first.now.chp.now next.result.chp.now next.result.attached.now c.loop-until.invariant.some
    next.ensures.some c.loop-until.invariant.alike c.if-not-goes_on.ensures next.ensures.chps next.ensures.attachments

pub loop-until-preserved : goal.loop-until-preserved
loop-until-preserved c =
    let parts = c.args.parts.now in
    let until = c.loop-until.until in
    let next = c.alike_from-next in
    let more = next.ensures.some in
    let low = c.loop-until-test.true in
    let some = c.loop-until.invariant.some in
    record {
      walk = later_walk parts next.new.walk until next.result.end next.ensures.walk (omega (arith, more));
      before = later_walk parts next.new.walk until c.args.end next.ensures.walk (omega (arith, low));
      some = omega (arith, some, more);
      alike =
          alike_on (items_in parts) c.args.place until next.result.end c.args.first.now.chp.now
          next.result.chp.now next.result.attached.now c.loop-until.invariant.alike c.if-not-goes_on.ensures
          next.ensures.chps next.ensures.attachments;
    }

pub returns-clause-walk : goal.returns-clause-walk
returns-clause-walk c = c.loop-until.invariant.before

pub returns-clause-joined : goal.returns-clause-joined
returns-clause-joined c = λ k item next le until here there.
    alike_joined (items_in c.args.parts.now) c.args.place c.loop-until.until c.args.first.now.chp.now
    c.loop-until.invariant.alike k item next le (omega (arith, until, c.loop-until-test.false)) here there
