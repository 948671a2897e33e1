use Rattle.std.proofs.Common.{◌+◌, arith}
use Rattle.loss_report.proofs.Public.{range_cut}
use Rattle.doc_fit.proofs.list_losses.part_of.Goals as goal

pub returns : goal.returns
returns c = rw c.min.ensures (range_cut c.args.table.now c.args.pair.0 (c.args.pair.0 + c.args.pair.1) c.min-end.result
    (omega arith) c.min-end.ensures)
