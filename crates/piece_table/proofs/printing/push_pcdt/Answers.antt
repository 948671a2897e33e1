use Rattle.std.proofs.Common.{arith}
use Rattle.piece_table.proofs.PlcPrintLemmas.{pcdt_printed}
use Rattle.piece_table.proofs.printing.push_pcdt.Goals as goal

pub returns : goal.returns
returns c = rw (
  c.in_ok-push_pcds.ensures,
  c.in_ok-push_cps.ensures,
  c.in_ok-push32.ensures.ok,
  c.in_ok-push_all.ensures.ok,
) (pcdt_printed c.args.bytes.now c.args.entries.now c.args.prms.now _ (omega arith))
