-- The places of a text, kept as rows: each piece's are one.
use Rattle.std.specs.Prelude.{◌^◌, ◌<◌, List, length}
use Rattle.direct_props.specs.declared.places.PlaceRow.{PlaceRow}
use Rattle.direct_props.specs.Rows.{AreRows, row_places_of}

-- each row ends within the numbers of 32 bits, and the places are not more
pub record AreTextRows (rows : List PlaceRow) : Type 0 where
  pub each : AreRows rows
  pub few : length (row_places_of rows) < 2 ^ 32
