use Rattle.std.proofs.Common.{◌≡◌, ◌∙◌, ap, sym, subst, arith, List, [], length, drop, length-drop}
use Rattle.doc_bits.proofs.Public.{nil_from_length}
use Rattle.doc_model.specs.declared.document.Document.{Document}
use Rattle.doc_mends.specs.declared.mends.DeletedRange.{DeletedRange}
use Rattle.doc_mends.specs.Mends.{all_struck, AreRanges}
use Rattle.doc_mends.proofs.BatchLemmas.{batch_there, first_are, left_are, left_struck}
use Rattle.doc_mends.proofs.striking.strike_in_place.Goals as goal

pub strike_batch-requires-clause-there : goal.strike_batch-requires-clause-there
strike_batch-requires-clause-there c =
    let document = c.loop-left.document in
    let first = c.first_batch-batch.ensures in
    batch_there document c.first_batch-batch.result.story 0 c.first_batch-batch.result.ranges.now
    (first_are document c.loop-left.left.now c.first_batch-batch.result first c.loop-left.invariant.are) first.ascend first.some

pub strike_batch-requires-clause-ranges : goal.strike_batch-requires-clause-ranges
strike_batch-requires-clause-ranges c =
    first_are c.loop-left.document c.loop-left.left.now c.first_batch-batch.result c.first_batch-batch.ensures c.loop-left.invariant.are

pub loop-left-preserved : goal.loop-left-preserved
loop-left-preserved c =
    let document : Document = c.loop-left.document in
    let left : List DeletedRange = c.loop-left.left.now in
    let batch = c.first_batch-batch.result in
    let first = c.first_batch-batch.ensures in
    let made : Document = c.strike_batch.new.document in
    let rest : c.behind-left.result.now ≡ drop (length batch.ranges.now) left = c.behind-left.ensures in
    record {
      are = subst (AreRanges made) (sym rest)
          (left_are document made left batch first c.in_ok-strike_batch.ensures c.loop-left.invariant.are);
      gives = ap (λ (l : List DeletedRange). all_struck l made) rest
          ∙ (left_struck document made left batch first c.in_ok-strike_batch.ensures ∙ c.loop-left.invariant.gives);
    }

pub loop-left-smaller : goal.loop-left-smaller
loop-left-smaller c =
    let left : List DeletedRange = c.loop-left.left.now in
    let batch = c.first_batch-batch.result in
    let first = c.first_batch-batch.ensures in
    omega (
      arith,
      ap length c.behind-left.ensures,
      length-drop (length batch.ranges.now) left,
      first.some,
      first.within,
    )

pub returns : goal.returns
returns c =
    let none : c.loop-left.left.now ≡ [] = nil_from_length c.loop-left.left.now (omega (arith, c.loop-left-test.false)) in
    ap (λ (l : List DeletedRange). all_struck l c.loop-left.document) (sym none) ∙ c.loop-left.invariant.gives
