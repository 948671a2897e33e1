use Rattle.std.proofs.Common.{ℕ, ◌+◌, ◌<◌}
use Rattle.doc_bits.specs.Plc.{plc_cp}
use Rattle.deleted_text.proofs.places.is_bin_table.Given as goal

abbrev pub invariant-loop-k : goal.invariant-loop-k
invariant-loop-k l = (m : ℕ) → m < l.k → plc_cp l.bin m < plc_cp l.bin (m + 1)
