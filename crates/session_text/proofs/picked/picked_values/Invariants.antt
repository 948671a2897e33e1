use Rattle.std.proofs.Common.{◌≡◌, take}
use Rattle.piece_table.specs.Piece.{total_length}
use Rattle.session_text.specs.WrittenAgain.{renewed_values}
use Rattle.session_text.specs.Picked.{AreReadTo, values_of_both}
use Rattle.session_text.proofs.picked.picked_values.Given as goal

-- the values of the pieces so far that have new places
abbrev pub invariant-loop-number : goal.invariant-loop-number
invariant-loop-number g l = record {
  walk : l.walk ≡ l.placed.pieces.now.pieces;
  cp : l.cp ≡ total_length (take l.number l.placed.pieces.now.pieces);
  read : AreReadTo l.lists l.read l.cp;
  values : l.values ≡ renewed_values (take l.number l.placed.places.now)
      (take l.number l.placed.pieces.now.pieces) (values_of_both l.lists);
}
