-- The piece goes on while items have nothing beside their properties, and the same of these.
use Rattle.std.proofs.Common.{◌≡◌, ◌∙◌, ◌+◌, ◌-◌, ℕ, sym, subst, arith}
use Rattle.std.specs.Prelude.{slice_get, Some}
use Rattle.doc_columns.specs.Walks.{items_in}
use Rattle.doc_columns.proofs.Public.{later_walk}
use Rattle.json_doc.proofs.PieceLemmas.{alike_by, alike_on, alike_joined, alike_ends, special_ends}
use Rattle.json_doc.proofs.pieces.piece_end.Goals as goal

pub returns-then-is_something-clause-walk : goal.returns-then-is_something-clause-walk
returns-then-is_something-clause-walk c =
    later_walk c.args.parts.now c.args.walk.now c.args.place (c.args.place + 1) c.requires.walk (omega arith)

pub returns-then-is_something-clause-ends : goal.returns-then-is_something-clause-ends
returns-then-is_something-clause-ends c = λ low item next here there.
    let some = c.requires.some in
    let back : c.args.place + 1 - 1 ≡ c.args.place = omega arith in
    special_ends (items_in c.args.parts.now) c.args.place c.args.first.now.attached.now
    (sym c.is_something.ensures ∙ c.if-is_something.true)
    (λ one there. c.requires.attachments c.args.place one (omega arith) some there) item next
    (subst (λ (k : ℕ). slice_get (items_in c.args.parts.now) k ≡ Some item) back here)

pub loop-until-init : goal.loop-until-init
loop-until-init c =
    let parts = c.args.parts.now in
    let first = c.args.first.now in
    let some = c.requires.some in
    record {
      walk = later_walk parts c.args.walk.now c.args.place first.end c.requires.walk (omega (arith, some));
      some = some;
      within = c.requires.within;
      alike =
          alike_by (items_in parts) c.args.place first.end first.chp.now first.attached.now
          (sym c.is_something.ensures ∙ c.if-is_something.false) c.requires.chps c.requires.attachments;
    }

pub alike_from-next-requires-clause-walk : goal.alike_from-next-requires-clause-walk
alike_from-next-requires-clause-walk c = c.loop-until.invariant.walk

pub returns-then-not-goes_on-clause-joined : goal.returns-then-not-goes_on-clause-joined
returns-then-not-goes_on-clause-joined c =
    alike_joined (items_in c.args.parts.now) c.args.place c.loop-until.until c.args.first.now.chp.now
    c.loop-until.invariant.alike

pub returns-then-not-goes_on-clause-ends : goal.returns-then-not-goes_on-clause-ends
returns-then-not-goes_on-clause-ends c = λ low.
    let next = c.alike_from-next in
    alike_ends (items_in c.args.parts.now) c.args.place c.loop-until.until next.result.end
    c.args.first.now.chp.now next.result.chp.now next.result.attached.now c.loop-until.invariant.some
    next.ensures.some c.loop-until.invariant.alike c.if-not-goes_on.ensures next.ensures.chps next.ensures.attachments

pub loop-until-preserved : goal.loop-until-preserved
loop-until-preserved c =
    let parts = c.args.parts.now in
    let until = c.loop-until.until in
    let next = c.alike_from-next in
    let more = next.ensures.some in
    let some = c.loop-until.invariant.some in
    record {
      walk = later_walk parts next.new.walk until next.result.end next.ensures.walk (omega (arith, more));
      some = omega (arith, some, more);
      within = next.ensures.within;
      alike =
          alike_on (items_in parts) c.args.place until next.result.end c.args.first.now.chp.now
          next.result.chp.now next.result.attached.now c.loop-until.invariant.alike c.if-not-goes_on.ensures
          next.ensures.chps next.ensures.attachments;
    }

pub returns-clause-joined : goal.returns-clause-joined
returns-clause-joined c =
    alike_joined (items_in c.args.parts.now) c.args.place c.loop-until.until c.args.first.now.chp.now
    c.loop-until.invariant.alike
