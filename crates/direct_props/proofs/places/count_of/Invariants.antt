use Rattle.std.proofs.Common.{◌≡◌, length, take}
use Rattle.direct_props.specs.Rows.{row_places_of}
use Rattle.direct_props.proofs.places.count_of.Given as goal

-- the places of the rows so far are counted
abbrev pub invariant-loop-row : goal.invariant-loop-row
invariant-loop-row l = l.count ≡ length (row_places_of (take l.row-index l.rows))
