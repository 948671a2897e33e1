-- How far the cells of a table reach, by the cells of its rows.
use Rattle.std.specs.Prelude.{ℕ, zero, suc, ◌+◌, ◌==◌, nat_le, nat_lt, min, max, Bool, not, ◌&&◌, ◌||◌, List, [], ◌∷◌, ◌++◌}
use Rattle.std.specs.Prelude.{length, map, Option, None, Some, slice_get, if◌then◌else◌}
use Rattle.std.specs.List.{count_by, list_any}
use Rattle.view_places.specs.declared.element.Span.{Span}
use Rattle.view_places.specs.Same.{equal}
use Rattle.cell_spans.specs.declared.rows.RowCell.{RowCell}

abbrev pub Row : Type 0
Row = List RowCell

-- ---- columns

-- Profile: of the edges of a table the first 256 are counted
abbrev pub edges_with : List ℕ → ℕ → List ℕ
edges_with edges edge = if list_any (λ e. e == edge) edges || nat_le 256 (length edges) then edges else edges ++ edge ∷ []

unfoldable pub edges_of : List ℕ → Row → List ℕ
edges_of edges [] = edges
edges_of edges (cell ∷ cells) = edges_of (edges_with (edges_with edges cell.left) cell.right) cells

-- the edges of all rows, each once
unfoldable pub edges_of_rows : List ℕ → List Row → List ℕ
edges_of_rows edges [] = edges
edges_of_rows edges (row ∷ rows) = edges_of_rows (edges_of edges row) rows

abbrev pub is_edge_within : RowCell → ℕ → Bool
is_edge_within cell edge = nat_lt cell.left edge && nat_le edge cell.right

-- a column is between each two neighbours of the edges
abbrev pub column_count : List ℕ → RowCell → ℕ
column_count edges cell = min (max (count_by (is_edge_within cell) edges) 1) 999

-- ---- rows

-- the edges of both are the same, and both are in the head of their table or neither is
abbrev pub is_one : RowCell → RowCell → Bool
is_one above below =
    above.left == below.left && (above.right == below.right && equal above.in_head below.in_head)

-- a cell that one below it can be a part of
abbrev pub is_above : RowCell → RowCell → Bool
is_above cell above = above.is_vertical && (not above.is_part && is_one above cell)

-- a part of the cell above it, in the row before
abbrev pub is_part_below : Row → RowCell → Bool
is_part_below before cell = cell.goes_on && list_any (is_above cell) before

-- a part of a cell above it
abbrev pub is_part_of_cell : RowCell → RowCell → Bool
is_part_of_cell cell below = below.goes_on && (not below.is_part && is_one cell below)

abbrev pub has_part_in : RowCell → Row → Bool
has_part_in cell row = list_any (is_part_of_cell cell) row

-- how many rows at the front of these have a part of the cell
unfoldable pub rows_below : RowCell → List Row → ℕ
rows_below cell [] = 0
rows_below cell (row ∷ rows) = if has_part_in cell row then rows_below cell rows + 1 else 0

abbrev pub row_count : RowCell → List Row → ℕ
row_count cell rows = if not cell.is_vertical then 1 else min (rows_below cell rows + 1) 65534

-- ---- cells

-- by the row before and the rows behind: a part of another cell has no span of its own
abbrev pub cell_span : List ℕ → Row → List Row → RowCell → Option Span
cell_span edges before rows cell =
    if cell.is_part || is_part_below before cell then None else Some (record {
      columns = column_count edges cell;
      rows = row_count cell rows;
    })

-- the cells of rows behind a row
unfoldable pub spans_from : List ℕ → Row → List Row → List (Option Span)
spans_from edges before [] = []
spans_from edges before (row ∷ rows) = map (cell_span edges before rows) row ++ spans_from edges row rows

abbrev pub table_spans : List Row → List (Option Span)
table_spans rows = spans_from (edges_of_rows [] rows) [] rows

abbrev pub single : Span
single = record { columns = 1; rows = 1 }

-- cells of a row without an end
abbrev pub singles : List Bool → List (Option Span)
singles blanks = map (λ blank. Some single) blanks

abbrev pub known_span : Option (Option Span) → Option Span
known_span None = Some single
known_span (Some span) = span

-- the span of the cell with this number in a text
abbrev pub span_at : List (Option Span) → ℕ → Option Span
span_at spans number = known_span (slice_get spans number)

-- ---- rows by their numbers

abbrev pub known_row : Option Row → Row
known_row None = []
known_row (Some row) = row

abbrev pub row_at : List Row → ℕ → Row
row_at rows number = known_row (slice_get rows number)

-- the row before the one with this number
abbrev pub before_at : List Row → ℕ → Row
before_at rows zero = []
before_at rows (suc number) = row_at rows number
