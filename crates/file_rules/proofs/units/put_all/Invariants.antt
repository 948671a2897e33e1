use Rattle.std.proofs.Common.{◌≡◌, length, take}
use Rattle.piece_table.specs.Piece.{total_length}
use Rattle.file_rules.specs.Units.{text_units}
use Rattle.file_rules.proofs.units.put_all.Given as goal

-- the text of the first pieces
abbrev pub invariant-loop-i : goal.invariant-loop-i
invariant-loop-i l = record {
  units_len : length l.units ≡ total_length l.pieces.pieces;
  cp_is : l.cp ≡ total_length (take l.i l.pieces.pieces);
  units_so_far : take l.cp l.units ≡ text_units l.wd (take l.i l.pieces.pieces);
}
