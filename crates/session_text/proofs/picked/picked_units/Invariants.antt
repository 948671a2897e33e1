use Rattle.std.proofs.Common.{◌≡◌, ◌++◌, take}
use Rattle.piece_table.specs.Piece.{total_length}
use Rattle.session_text.specs.WrittenAgain.{renewed_values}
use Rattle.session_text.proofs.picked.picked_units.Given as goal

-- the units of the pieces so far that have new places
abbrev pub invariant-loop-number : goal.invariant-loop-number
invariant-loop-number l = record {
  walk : l.walk ≡ l.placed.pieces.now.pieces;
  cp : l.cp ≡ total_length (take l.number l.placed.pieces.now.pieces);
  units : l.units.items ≡ renewed_values (take l.number l.placed.places.now)
      (take l.number l.placed.pieces.now.pieces) (l.first ++ l.second);
}
