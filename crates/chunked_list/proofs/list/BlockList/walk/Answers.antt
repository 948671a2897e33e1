-- No item is before the first block.
use Rattle.std.proofs.Common.{length, ap, arith}
use Rattle.chunked_list.proofs.JoinLemmas.{joined-nil}
use Rattle.chunked_list.proofs.list.BlockList.walk.Goals as goal

pub invariant_of-result : goal.invariant_of-result
invariant_of-result g c = record {
  there = omega arith;
  before = ap length (joined-nil {T = g.row.T.Denot});
}
