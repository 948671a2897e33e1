use Rattle.std.proofs.Common.{◌≡◌, ◌++◌}
use Rattle.std.specs.Prelude.{slice_range}
use Rattle.cfb_layout.specs.Layout.{lengths_of}
use Rattle.full_save.proofs.streams.add_lengths.Given as goal

abbrev pub invariant-loop-i : goal.invariant-loop-i
invariant-loop-i l = l.lengths.items ≡ l.fn.lengths.items ++ lengths_of (slice_range l.carried l.from l.i)
