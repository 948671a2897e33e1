use Rattle.std.proofs.Common.{◌≡◌, drop}
use Rattle.fast_save_layout.specs.RenewedStreams.{bytes_named}
use Rattle.fast_save_layout.proofs.old_streams.bytes_named.Given as goal

abbrev pub invariant-loop-i : goal.invariant-loop-i
invariant-loop-i l = bytes_named l.container.streams l.name ≡ bytes_named (drop l.i l.container.streams) l.name
