use Rattle.std.proofs.Common.{rules}
use Rattle.doc_bits.specs.Plc.{plc_cp}
use Rattle.doc_parts.specs.Tabulated.{tabulate}
use Rattle.doc_parts.proofs.Public.{tabulate-next}
use Rattle.doc_losses.proofs.cps.table_cps.Goals as goal

pub loop-k-init : goal.loop-k-init
unfolding tabulate
loop-k-init c = search rules

pub loop-k-preserved : goal.loop-k-preserved
loop-k-preserved c =
    let next = tabulate-next (plc_cp c.args.table.now) c.loop-k.k in
    cc (next, c.in_ok-push.ensures.items, c.get32.ensures, c.loop-k.invariant)
