use Rattle.std.proofs.Common.{◌≡◌, ◌++◌}
use Rattle.std.specs.List.{flat_map, range_with_len}
use Rattle.cfb_in_place.specs.Sources.{header_after, sector_after}
use Rattle.cfb_in_place.proofs.appending.write.Given as goal

abbrev pub invariant-loop-sector : goal.invariant-loop-sector
invariant-loop-sector l = l.out ≡ header_after l.old l.added ++ flat_map (sector_after l.old l.sources)
    (range_with_len 0 l.sector)
