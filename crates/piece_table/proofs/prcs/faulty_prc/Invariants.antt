use Rattle.std.proofs.Common.{◌≡◌, ◌+◌}
use Rattle.piece_table.specs.Clx.{prc_place}
use Rattle.piece_table.specs.Numbering.{AreAccepted}
use Rattle.piece_table.proofs.prcs.faulty_prc.Given as goal

-- the Prcs before this one have no fault
abbrev pub invariant-loop-i : goal.invariant-loop-i
invariant-loop-i l =
    (l.place ≡ l.at + prc_place l.parts.prcs l.i) × AreAccepted (record { prcs = l.parts.prcs; plc = l.parts.plc }) l.i
