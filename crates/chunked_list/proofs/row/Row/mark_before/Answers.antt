-- No item is before the first block.
use Rattle.std.proofs.Common.{length, ap, arith}
use Rattle.chunked_list.proofs.JoinLemmas.{joined-nil}
use Rattle.chunked_list.proofs.row.Row.mark_before.Goals as goal

pub returns-clause-at : goal.returns-clause-at
returns-clause-at g c = record {
  there = omega arith;
  before = ap length (joined-nil {T = g.row.T.Denot});
}
