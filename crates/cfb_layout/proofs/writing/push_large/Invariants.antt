use Rattle.std.proofs.Common.{◌≡◌, ◌++◌, take}
use Rattle.std.specs.List.{flat_map}
use Rattle.cfb_layout.specs.Sectors.{padded_to_unit}
use Rattle.cfb_layout.specs.Layout.{large_part}
use Rattle.cfb_layout.proofs.writing.push_large.Given as goal

abbrev pub invariant-loop-i : goal.invariant-loop-i
invariant-loop-i l = l.out ≡ l.fn.out ++ flat_map (λ stream. padded_to_unit 512 0 (large_part stream.bytes))
    (take l.i l.streams)
