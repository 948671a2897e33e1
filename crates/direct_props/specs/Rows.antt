-- Places of text units, kept as rows. The list has an entry a unit: no row is searched for.
use Rattle.std.specs.Prelude.{◌≡◌, ℕ, ◌+◌, ◌*◌, ◌<◌, ◌≤◌, ◌^◌, List, All, Some, length, take, map, flat_map, slice_get}
use Rattle.std.specs.List.{range_with_len}
use Rattle.direct_props.specs.declared.places.PlaceRow.{PlaceRow}

-- the places of a row
abbrev pub row_places : PlaceRow → List ℕ
row_places row = map (λ j. row.at + j * row.step) (range_with_len 0 row.len)

-- the places of rows, one row after the other
unfoldable pub row_places_of : List PlaceRow → List ℕ
row_places_of rows = flat_map row_places rows

-- each row ends within the numbers of 32 bits
abbrev pub AreRows : List PlaceRow → Type 0
AreRows rows = All (λ row. row.at + row.len * row.step < 2 ^ 32) rows

-- rows whose places, but for so many at the front, are so many at least; the first of these is in the first row
pub record IsCursor (rows : List PlaceRow) (skipped count : ℕ) : Type 0 where
  pub each : AreRows rows
  pub few : length (row_places_of rows) < 2 ^ 32
  pub within : skipped + count ≤ length (row_places_of rows)
  pub here : 0 < count → (row : PlaceRow) × (slice_get rows 0 ≡ Some row) × (skipped < row.len)

-- a place of the rows is in the row of this number, behind so many of its places; or it is behind the last row
pub record IsInRow (rows : List PlaceRow) (place number left : ℕ) : Type 0 where
  pub there : number ≤ length rows
  pub here : length (row_places_of (take number rows)) + left ≡ place
  pub inside : number < length rows → (row : PlaceRow) × (slice_get rows number ≡ Some row) × (left < row.len)
