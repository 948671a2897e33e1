use Rattle.std.proofs.Common.{arith}
use Rattle.doc_join.proofs.kept_maps.KeptMaps.add_chps.Goals as goal

pub map-requires : goal.map-requires
map-requires c = c.requires.map (omega (arith, c.if-run-eq0.false))
