use Rattle.std.proofs.Common.{◌≡◌, ◌+◌, ◌*◌, length, take}
use Rattle.session_text.specs.WrittenAgain.{AreChosen, renewed_units}
use Rattle.session_text.proofs.writing.new_places.Given as goal

-- the pieces so far have their places
abbrev pub invariant-loop-number : goal.invariant-loop-number
invariant-loop-number l = record {
  walk : l.walk ≡ l.text.pieces.pieces;
  at : l.at ≡ l.text.added.base + 2 * renewed_units l.places.items (take l.number l.text.pieces.pieces);
  len : length l.places.items ≡ length (take l.number l.text.pieces.pieces);
  chosen : AreChosen l.which l.text (take l.number l.text.pieces.pieces) l.places.items;
}
