use Rattle.std.proofs.Common.{◌≡◌}
use Rattle.doc_bits.specs.Plc.{plc_cp}
use Rattle.doc_parts.specs.Tabulated.{tabulate}
use Rattle.doc_losses.proofs.cps.table_cps.Given as goal

-- the CPs so far
abbrev pub invariant-loop-k : goal.invariant-loop-k
invariant-loop-k l = l.cps.items ≡ tabulate (plc_cp l.table) l.k
