use Rattle.std.proofs.Common.{◌≡◌, take}
use Rattle.direct_props.specs.Rows.{AreRows, row_places_of}
use Rattle.file_rules.specs.Units.{unit_places_in}
use Rattle.file_rules.proofs.units.place_rows.Given as goal

-- the rows of the first pieces
abbrev pub invariant-loop-i : goal.invariant-loop-i
invariant-loop-i l = record {
  places : row_places_of l.rows.items ≡ unit_places_in (take l.i l.pieces.pieces);
  each : AreRows l.rows.items;
}
