-- The fresh piece has so many units.
use Rattle.std.proofs.Common.{ap, arith}
use Rattle.piece_table.specs.Changes.{fresh_units}
use Rattle.piece_table.proofs.BlockLemmas.{units-entries}
use Rattle.piece_table.proofs.cutting.put.Goals as goal

pub insert-requires-clause-units : goal.insert-requires-clause-units
insert-requires-clause-units c =
    omega (arith, units-entries c.args.entries.now.items, ap fresh_units c.in-Some.is, c.requires.units)
