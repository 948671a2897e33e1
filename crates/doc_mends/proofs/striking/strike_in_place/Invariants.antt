use Rattle.std.proofs.Common.{◌≡◌, length}
use Rattle.doc_mends.specs.Mends.{all_struck, AreRanges}
use Rattle.doc_mends.proofs.striking.strike_in_place.Given as goal

-- the ranges that are left are ranges of the document, and give what all give
abbrev pub invariant-loop-left : goal.invariant-loop-left
invariant-loop-left l = record {
  are : AreRanges l.document l.left;
  gives : all_struck l.left l.document ≡ all_struck l.fn.ranges l.fn.document;
}

abbrev pub decreases-loop-left : goal.decreases-loop-left
decreases-loop-left l = length l.left
