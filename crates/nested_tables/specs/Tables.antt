-- Tables inside of cells. Those of a depth are in a cell of the table of the depth before it: their paragraphs are one
-- behind the other, and the last of them ends a row. Where it does not, there is no table of that depth.
use Rattle.std.specs.Prelude.{ℕ, ◌+◌, ◌==◌, nat_le, Bool, not, ◌&&◌, List, [], ◌∷◌, length, Option, None, Some}
use Rattle.std.specs.Prelude.{slice_get, if◌then◌else◌}
use Rattle.std.specs.List.{list_any}
use Rattle.nested_tables.specs.declared.depths.Depth.{Depth}
use Rattle.nested_tables.specs.declared.walk.NestedPlace.{NestedPlace}
use Rattle.nested_tables.specs.declared.walk.Walk.{Walk}
use Rattle.nested_tables.specs.declared.tables.NestedPlaces.{NestedPlaces}
use Rattle.nested_tables.specs.declared.tables.NestedTables.{NestedTables}

-- a paragraph is at least so deep
abbrev pub reaches_depth : ℕ → Depth → Bool
reaches_depth depth paragraph = nat_le depth paragraph.depth

-- a cell, or a row, of the table of a depth ends with it
abbrev pub ends_cell : ℕ → Depth → Bool
ends_cell depth paragraph = paragraph.depth == depth && paragraph.ends_cell

abbrev pub ends_row : ℕ → Depth → Bool
ends_row depth paragraph = paragraph.depth == depth && paragraph.ends_row

-- the row goes on behind it
abbrev pub keeps_row : ℕ → Depth → Bool
keeps_row depth paragraph = reaches_depth depth paragraph && not (ends_row depth paragraph)

-- of the paragraphs at the front that are so deep the last one ends a row, behind one that does or does not
unfoldable pub is_whole_table : ℕ → Bool → List Depth → Bool
is_whole_table depth ended [] = ended
is_whole_table depth ended (paragraph ∷ more) =
    if reaches_depth depth paragraph then is_whole_table depth (ends_row depth paragraph) more else ended

-- whether the table of a depth that a paragraph is in is whole, by the paragraphs behind it, where there is one
abbrev pub whole_in : ℕ → Depth → List Depth → Option Bool
whole_in depth paragraph more =
    if reaches_depth depth paragraph then Some (is_whole_table depth (ends_row depth paragraph) more) else None

-- ---- by the paragraphs before one, the nearest first

-- the number of the first paragraph of those that go on up to here
abbrev pub first_of : (Depth → Bool) → List Depth → ℕ
first_of goes_on [] = 0
first_of goes_on (paragraph ∷ before) =
    if goes_on paragraph then first_of goes_on before else length before + 1

-- how many cells of the row ended
abbrev pub nested_row_cells : ℕ → List Depth → ℕ
nested_row_cells depth [] = 0
nested_row_cells depth (paragraph ∷ before) =
    if keeps_row depth paragraph then nested_row_cells depth before + (if ends_cell depth paragraph then 1 else 0) else
    0

abbrev pub walk_of : ℕ → List Depth → Walk
walk_of depth before = record {
  number = length before;
  table = first_of (reaches_depth depth) before;
  row = first_of (keeps_row depth) before;
  cell = nested_row_cells depth before;
}

-- behind one more
abbrev pub walk_after : ℕ → Walk → Depth → Walk
walk_after depth walk paragraph = record {
  number = walk.number + 1;
  table = if reaches_depth depth paragraph then walk.table else walk.number + 1;
  row = if keeps_row depth paragraph then walk.row else walk.number + 1;
  cell = if keeps_row depth paragraph then walk.cell + (if ends_cell depth paragraph then 1 else 0) else 0;
}

-- ---- where a paragraph is

-- the mark of a row alone is in no cell
abbrev pub cell_in : ℕ → Walk → Depth → Option ℕ
cell_in depth walk paragraph =
    if ends_row depth paragraph && paragraph.is_mark then None else Some walk.cell

abbrev pub own_place : ℕ → Walk → Depth → NestedPlace
own_place depth walk paragraph =
    record { table = walk.table; row = walk.row; cell = cell_in depth walk paragraph }

-- where the table of this depth is whole or not, or there is none
abbrev pub place_by : Option Bool → NestedPlace → Option NestedPlace
place_by None place = None
place_by (Some whole) place = if whole then Some place else None

abbrev pub nested_place_in : ℕ → List Depth → Depth → List Depth → Option NestedPlace
nested_place_in depth before paragraph more =
    place_by (whole_in depth paragraph more) (own_place depth (walk_of depth before) paragraph)

-- paragraphs behind others, the nearest first
unfoldable pub places_from : ℕ → List Depth → List Depth → List (Option NestedPlace)
places_from depth before [] = []
places_from depth before (paragraph ∷ more) =
    nested_place_in depth before paragraph more ∷ places_from depth (paragraph ∷ before) more

-- where no paragraph is so deep, no place is kept
abbrev pub nested_places_of : ℕ → List Depth → List (Option NestedPlace)
nested_places_of depth paragraphs =
    if list_any (reaches_depth depth) paragraphs then places_from depth [] paragraphs else []

-- Profile: at most three tables are one in another
abbrev pub tables_of : List Depth → NestedTables
tables_of paragraphs = record { second = nested_places_of 2 paragraphs; third = nested_places_of 3 paragraphs }

abbrev pub no_nested_tables : NestedTables
no_nested_tables = record { second = []; third = [] }

-- the place of the paragraph with a number
abbrev pub known_place : Option (Option NestedPlace) → Option NestedPlace
known_place None = None
known_place (Some place) = place

abbrev pub nested_place_at : List (Option NestedPlace) → ℕ → Option NestedPlace
nested_place_at places number = known_place (slice_get places number)

abbrev pub places_at : NestedTables → ℕ → NestedPlaces
places_at tables number = record {
  second = nested_place_at tables.second number;
  third = nested_place_at tables.third
      number;
}
