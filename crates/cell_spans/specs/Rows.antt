-- The cells of a row, by its definition and by which of them are blank: those that are not stay cells of their own.
use Rattle.std.specs.Prelude.{ℕ, ◌+◌, Bool, not, ◌&&◌, ◌||◌, List, [], ◌∷◌, if◌then◌else◌}
use Rattle.cell_spans.specs.declared.rows.RowCell.{RowCell}
use Rattle.cell_spans.specs.Definition.{edge, flag}

-- [MS-DOC] fFirstMerged of a TCGRF
abbrev pub is_first : List ℕ → ℕ → Bool
is_first definition number = flag definition number 1

-- [MS-DOC] fMerged
abbrev pub is_merged : List ℕ → ℕ → Bool → Bool
is_merged definition number blank = blank && (flag definition number 2 && not (is_first definition number))

-- the number of the first cell from one on that is no part of a cell on its left, by which are blank from there on
abbrev pub parts_end : List ℕ → ℕ → List Bool → ℕ
parts_end definition number [] = number
parts_end definition number (blank ∷ blanks) =
    if is_merged definition number blank then parts_end definition (number + 1) blanks else number

-- the number of the edge where a cell ends, by which are blank behind it
abbrev pub ends : List ℕ → ℕ → List Bool → ℕ
ends definition number blanks =
    if is_first definition number then parts_end definition (number + 1) blanks else number + 1

-- [MS-DOC] fVertMerge and fVertRestart; a cell behind one that joins those on its right
abbrev pub row_cell : List ℕ → Bool → ℕ → Bool → Bool → List Bool → RowCell
row_cell definition in_head number joins blank blanks = record {
  in_head = in_head;
  left = edge definition number;
  right = edge definition (ends definition number blanks);
  is_part = joins && is_merged definition number blank;
  is_vertical = flag definition number 32;
  goes_on = blank && (flag definition number 32 && not (flag definition number 64));
}

abbrev pub joins_behind : List ℕ → ℕ → RowCell → Bool
joins_behind definition number cell = is_first definition number || cell.is_part

-- the cells from a number on
unfoldable pub row_cells_from : List ℕ → Bool → ℕ → Bool → List Bool → List RowCell
row_cells_from definition in_head number joins [] = []
row_cells_from definition in_head number joins (blank ∷ blanks) =
    let cell = row_cell definition in_head number joins blank blanks in
    cell ∷ row_cells_from definition in_head (number + 1) (joins_behind definition number cell) blanks
