use Rattle.std.proofs.Common.{◌≡◌, ◌<◌, ℕ, Some}
use Rattle.std.specs.Prelude.{slice_get}
use Rattle.prop_map.specs.Modifiers.{no_modifier}
use Rattle.piece_table.specs.Piece.{TextPiece}
use Rattle.fast_save.proofs.ledgers.has_modifier.Given as goal

-- the walk is over the pieces, and those so far have none
abbrev pub invariant-loop-i : goal.invariant-loop-i
invariant-loop-i l = record {
  walk : l.walk ≡ l.pieces.pieces;
  none : (k : ℕ) (piece : TextPiece) →
      k < l.i → slice_get l.pieces.pieces k ≡ Some piece → piece.modifier ≡ no_modifier;
}
