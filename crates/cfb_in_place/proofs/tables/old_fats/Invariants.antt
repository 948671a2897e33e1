use Rattle.std.proofs.Common.{◌≡◌, map}
use Rattle.std.specs.List.{range_with_len}
use Rattle.cfb_sectors.specs.Header.{fat_sector}
use Rattle.cfb_in_place.proofs.tables.old_fats.Given as goal

abbrev pub invariant-loop-k : goal.invariant-loop-k
invariant-loop-k l = l.sectors.items ≡ map (fat_sector l.old) (range_with_len 0 l.k)
