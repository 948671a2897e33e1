-- No cell reaches far.
use Rattle.std.proofs.Common.{◌≡◌, refl, ℕ, ◌+◌, ◌<◌, ◌≤◌, Bool, true, false, not, ◌||◌, List, [], ◌∷◌, ◌++◌, map, min, max, arith}
use Rattle.std.proofs.Common.{Option, None, Some, if◌then◌else◌}
use Rattle.std.specs.Prelude.{slice_get}
use Rattle.std.specs.List.{All, count_by}
use Rattle.std.proofs.lemmas.List.Elements.{All-nil, All-cons, All-append, All-head, All-tail}
use Rattle.doc_bits.proofs.Public.{All_at}
use Rattle.view_places.specs.declared.element.Span.{Span}
use Rattle.view_places.proofs.Public.{IsSmallSpan, IsSmallSpanIn}
use Rattle.cell_spans.specs.declared.rows.RowCell.{RowCell}
use Rattle.cell_spans.specs.declared.tables.Tables.{Tables}
use Rattle.cell_spans.specs.Spans.{Row, cell_span, column_count, edges_of_rows, is_part_below, is_edge_within}
use Rattle.cell_spans.specs.Spans.{known_span}
use Rattle.cell_spans.specs.Spans.{row_count, rows_below, single, singles, span_at, spans_from, table_spans}
use Rattle.cell_spans.specs.Tables.{behind_outside, no_tables}

pub small_single : IsSmallSpan single
small_single = record { columns = omega arith; rows = omega arith }

few_rows : (test : Bool) (count : ℕ) → (if test then 1 else min count 65534) < 100000
few_rows true count = omega arith
few_rows false count = omega arith

small_cell : (part : Bool) (span : Span) → IsSmallSpan span → IsSmallSpanIn (if part then None else Some span)
small_cell true span small = tt
small_cell false span small = small

small_row : (edges : List ℕ) (before : Row) (rows : List Row) (row : Row) → All IsSmallSpanIn (map (cell_span edges
    before rows) row)
small_row edges before rows [] = All-nil IsSmallSpanIn
small_row edges before rows (cell ∷ row) =
    All-cons IsSmallSpanIn (cell_span edges before rows cell) (map (cell_span edges before rows) row)
    (small_cell (cell.is_part || is_part_below before cell) (record {
      columns = column_count edges cell;
      rows = row_count cell rows;
    }) (record {
      columns = omega arith;
      rows = few_rows (not cell.is_vertical) (rows_below cell rows + 1);
    })) (small_row edges before rows row)

small_rows : (edges : List ℕ) (before : Row) (rows : List Row) → All IsSmallSpanIn (spans_from edges before rows)
unfolding spans_from
small_rows edges before [] = All-nil IsSmallSpanIn
small_rows edges before (row ∷ rows) =
    All-append IsSmallSpanIn (map (cell_span edges before rows) row) (spans_from edges row rows)
    (small_row edges before rows row) (small_rows edges row rows)

small_singles : (blanks : List Bool) → All IsSmallSpanIn (singles blanks)
small_singles [] = All-nil IsSmallSpanIn
small_singles (blank ∷ blanks) =
    All-cons IsSmallSpanIn (Some single) (singles blanks) small_single (small_singles blanks)

-- the cells of the tables that ended
pub small_outside : (tables : Tables) → All IsSmallSpanIn tables.spans → All IsSmallSpanIn (behind_outside
    tables).spans
small_outside tables small =
    All-append IsSmallSpanIn (tables.spans ++ table_spans tables.rows) (singles tables.blanks)
    (All-append IsSmallSpanIn tables.spans (table_spans tables.rows) small
    (small_rows (edges_of_rows [] tables.rows) [] tables.rows)) (small_singles tables.blanks)

pub small_no_tables : All IsSmallSpanIn no_tables.spans
small_no_tables = All-nil IsSmallSpanIn

-- of each cell by its number
pub small_span_at : (spans : List (Option Span)) → All IsSmallSpanIn spans → (number : ℕ) → IsSmallSpanIn (span_at spans
    number)
small_span_at spans small number =
    at (slice_get spans number) (λ span is. All_at IsSmallSpanIn spans number span small is)
  where
    at : (found : Option (Option Span)) → ((span : Option Span) → found ≡ Some span → IsSmallSpanIn span) →
        IsSmallSpanIn (known_span found)
    at None there = small_single
    at (Some span) there = there span refl
