-- Where paragraphs are, by those before them, the nearest first: their numbers, and those of their tables, rows and
-- cells;
-- and which rows are the head of their table.
use Rattle.std.specs.Prelude.{ℕ, ◌+◌, Bool, true, false, ◌&&◌, ◌||◌, List, [], ◌∷◌, length, if◌then◌else◌}
use Rattle.doc_view.specs.declared.standing.Standing.{Standing}
use Rattle.doc_view.specs.Seen.{Paragraph}
use Rattle.doc_view.specs.Layout.{is_in_table, row_goes_on, closes_cell, ends_head}
use Rattle.doc_places.specs.declared.grid.Grid.{Grid}

-- the number of the first paragraph of those that go on up to here
abbrev pub first_of : (Standing → Bool) → List Paragraph → ℕ
first_of goes_on [] = 0
first_of goes_on (paragraph ∷ before) = if goes_on paragraph.standing then first_of goes_on before else length before
    + 1

-- how many cells of the row ended
abbrev pub ended_row_cells : List Paragraph → ℕ
ended_row_cells [] = 0
ended_row_cells (paragraph ∷ before) =
    if row_goes_on paragraph.standing then ended_row_cells before + (if closes_cell paragraph.standing then 1 else 0)
    else 0

-- how many cells of the text ended
abbrev pub ended_of : List Paragraph → ℕ
ended_of [] = 0
ended_of (paragraph ∷ before) = ended_of before + (if closes_cell paragraph.standing then 1 else 0)

-- each row of the table that ended is a head
abbrev pub all_heads : List Paragraph → Bool
all_heads [] = true
all_heads (paragraph ∷ before) =
    if is_in_table paragraph.standing then (row_goes_on paragraph.standing || ends_head paragraph.standing) && all_heads
    before else true

-- the row that the first of these paragraphs is in is a head
abbrev pub is_head_row : List Paragraph → Bool
is_head_row [] = false
is_head_row (paragraph ∷ more) =
    if row_goes_on paragraph.standing then is_head_row more else ends_head paragraph.standing

abbrev pub grid_of : List Paragraph → Grid
grid_of before = record {
  number = length before;
  table = first_of is_in_table before;
  row = first_of row_goes_on before;
  cell = ended_row_cells before;
  ended = ended_of before;
  heads = all_heads before;
}

-- behind one more paragraph
abbrev pub grid_after : Grid → Standing → Grid
grid_after grid standing = record {
  number = grid.number + 1;
  table = if is_in_table standing then grid.table else grid.number + 1;
  row = if row_goes_on standing then grid.row else grid.number + 1;
  cell = if row_goes_on standing then grid.cell + (if closes_cell standing then 1 else 0) else 0;
  ended = grid.ended + (if closes_cell standing then 1 else 0);
  heads = if is_in_table standing then (row_goes_on standing || ends_head standing) && grid.heads else true;
}
