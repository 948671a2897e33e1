-- The pieces are few.
use Rattle.std.proofs.Common.{arith}
use Rattle.piece_table.proofs.BlockLemmas.{units-entries, are_few}
use Rattle.piece_table.proofs.pieces.PieceList.of.Goals as goal

pub of-requires-clause-few : goal.of-requires-clause-few
of-requires-clause-few c =
    let few = (are_few c.args.modifiers.items c.args.entries.now c.requires.pieces).count in
    omega arith

pub of-requires-clause-units : goal.of-requires-clause-units
of-requires-clause-units c =
    let few = (are_few c.args.modifiers.items c.args.entries.now c.requires.pieces).units in
    omega (arith, units-entries c.args.entries.now)
