use Rattle.std.proofs.Common.{◌≡◌, ◌∙◌, ◌+◌, ◌≤◌, ap, sym, subst, refl, arith, List, [], ◌∷◌, ◌++◌, length, take, ℕ}
use Rattle.std.proofs.lemmas.List.{take_all}
use Rattle.doc_bits.proofs.Public.{take_step}
use Rattle.doc_bits.specs.declared.places.Story.{Story}
use Rattle.doc_mends.specs.declared.mends.DeletedRange.{DeletedRange}
use Rattle.doc_mends.specs.Batches.{RangesAscend, IsNext, last_range_end}
use Rattle.doc_mends.proofs.BatchLemmas.{ascend_more, first_of, last_more}
use Rattle.doc_mends.proofs.batches.first_batch.Goals as goal

pub loop-k-init : goal.loop-k-init
loop-k-init c =
    let first = c.range_at-first.result in
    let one : take 1 c.args.ranges.now ≡ first ∷ [] = take_step c.args.ranges.now 0 first c.range_at-first.ensures in
    record {
      ascend = subst (RangesAscend first.story 0) (sym one) (record { story_is = refl; ahead = omega arith }, tt);
      end = sym (ap (last_range_end 0) one);
    }

pub returns-then-not-is_next : goal.returns-then-not-is_next
returns-then-not-is_next c =
    first_of c.args.ranges.now c.batch_of.result c.loop-k.k c.range_at-first.result.story
    (omega (arith, c.loop-k.auto.k)) (omega (arith, c.loop-k-test.true)) c.batch_of.ensures.story
    c.batch_of.ensures.ranges c.loop-k.invariant.ascend

pub loop-k-preserved : goal.loop-k-preserved
loop-k-preserved c =
    let ranges : List DeletedRange = c.args.ranges.now in
    let k = c.loop-k.k in
    let story = c.range_at-first.result.story in
    let range = c.range_at-range.result in
    let more : take (k + 1) ranges ≡ take k ranges ++ range ∷ [] = take_step ranges k range c.range_at-range.ensures in
    let next = c.is_next.ensures.0 c.if-not-is_next.false in
    let is : IsNext story (last_range_end 0 (take k ranges)) range =
    subst (λ (n : ℕ). IsNext story n range) c.loop-k.invariant.end next in
    record {
      ascend = subst (RangesAscend story 0) (sym more) (ascend_more story 0 (take k ranges) range
          c.loop-k.invariant.ascend
          is);
      end = sym (ap (last_range_end 0) more ∙ last_more 0 (take k ranges) range);
    }

pub returns : goal.returns
returns c =
    let ranges : List DeletedRange = c.args.ranges.now in
    let k = c.loop-k.k in
    let whole : take k ranges ≡ ranges = take_all k ranges (omega (arith, c.loop-k-test.false)) in
    first_of ranges c.batch_of-2.result k c.range_at-first.result.story (omega (arith, c.loop-k.auto.k))
    (omega (arith, c.loop-k.auto.k-end, c.requires)) c.batch_of-2.ensures.story
    (c.batch_of-2.ensures.ranges ∙ sym whole) c.loop-k.invariant.ascend
