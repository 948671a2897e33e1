use Rattle.std.proofs.Common.{◌≡◌, ◌-◌, ◌*◌, take}
use Rattle.std.specs.List.{flat_map}
use Rattle.cfb_sectors.specs.Header.{sector_bytes}
use Rattle.cfb_sectors.proofs.stream.join.Given as goal

abbrev pub invariant-loop-sector : goal.invariant-loop-sector
invariant-loop-sector l = record {
  joined : l.joined.items ≡ take l.size (flat_map (sector_bytes l.base l.unit l.bytes) (take l.sector-index l.chain));
  left : l.left ≡ l.size - l.sector-index * l.unit;
}
