use Rattle.std.proofs.Common.{◌≡◌, ◌+◌, length, take}
use Rattle.direct_props.specs.Rows.{row_places_of}
use Rattle.direct_props.proofs.places.find_row.Given as goal

-- what is left is counted from the row
abbrev pub invariant-loop-row : goal.invariant-loop-row
invariant-loop-row l = length (row_places_of (take l.row l.rows)) + l.left ≡ l.place
