use Rattle.std.proofs.Common.{◌≡◌, take}
use Rattle.fast_save_layout.specs.RenewedStreams.{renewed_streams}
use Rattle.fast_save_layout.proofs.renewed.renewed_streams.Given as goal

abbrev pub invariant-loop-i : goal.invariant-loop-i
invariant-loop-i l = l.streams ≡ renewed_streams l.name l.wd l.table (take l.i l.container.streams)
