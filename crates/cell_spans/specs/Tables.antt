-- The cells of the tables of a text, paragraph by paragraph.
use Rattle.std.specs.Prelude.{ℕ, Bool, true, false, ◌&&◌, List, [], ◌∷◌, ◌++◌}
use Rattle.cell_spans.specs.declared.tables.Tables.{Tables}
use Rattle.cell_spans.specs.Definition.{right_definition}
use Rattle.cell_spans.specs.Rows.{row_cells_from}
use Rattle.cell_spans.specs.Spans.{singles, table_spans}

abbrev pub no_tables : Tables
no_tables = record { spans = []; rows = []; blanks = []; begins = true; heads = true }

-- behind a paragraph outside of tables: the table that is open ends
abbrev pub behind_outside : Tables → Tables
behind_outside tables = record no_tables {
  spans = (tables.spans ++ table_spans tables.rows) ++ singles tables.blanks;
}

-- behind one in a cell that goes on
abbrev pub behind_inside : Tables → Tables
behind_inside tables = record tables { begins = false }

-- behind one that ends a cell, which is blank where it is that paragraph alone, and that its mark alone
abbrev pub behind_cell : Tables → Bool → Tables
behind_cell tables is_mark = record tables {
  blanks = tables.blanks ++ (tables.begins && is_mark) ∷ [];
  begins = true;
}

-- behind the end of a row: its cells are in the head where all rows so far are heads
abbrev pub behind_row : Tables → Bool → List ℕ → Tables
behind_row tables is_head definition = record tables {
  rows = tables.rows ++ row_cells_from (right_definition definition) (tables.heads && is_head) 0 false tables.blanks ∷
      [];
  blanks = [];
  begins = true;
  heads = tables.heads && is_head;
}
