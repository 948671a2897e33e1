-- The cells of the tables of a text: how far each reaches, by the definitions of the rows, and the tables inside of
-- them.
use Rattle.std.specs.Prelude.{ℕ, ◌+◌, ◌-◌, ◌==◌, Bool, true, false, List, [], ◌∷◌, length, Option, None, Some}
use Rattle.std.specs.Prelude.{slice_get}
use Rattle.std.specs.Prelude.{if◌then◌else◌}
use Rattle.doc_bits.specs.Number.{u32_at}
use Rattle.view_places.specs.declared.element.Span.{Span}
use Rattle.cell_spans.specs.declared.tables.Tables.{Tables}
use Rattle.cell_spans.specs.Tables.{behind_cell, behind_inside, behind_outside, behind_row, no_tables}
use Rattle.nested_tables.specs.declared.depths.Depth.{Depth}
use Rattle.nested_tables.specs.declared.tables.NestedTables.{NestedTables}
use Rattle.nested_tables.specs.Tables.{tables_of}
use Rattle.doc_model.specs.declared.item.Item.{Item}
use Rattle.doc_model.specs.declared.item.Mark.{Mark}
use Rattle.plain_doc.specs.Rows.{is_byte_one, mark_value_in}
use Rattle.doc_model.specs.Settings.{is_inside}
use Rattle.doc_model.specs.Stretches.{stretches}
use Rattle.doc_view.specs.declared.standing.Standing.{Standing}
use Rattle.doc_view.specs.declared.standing.Standing.TheVariants.{Outside, Inside, Cell, Row, HeadRow}
use Rattle.doc_view.specs.Seen.{standing_of}

abbrev pub known_bytes : Option (List ℕ) → List ℕ
known_bytes None = []
known_bytes (Some bytes) = bytes

-- [MS-DOC] sprmTDefTable, D608, of the mark of a row
abbrev pub definition_in : Option Mark → List ℕ
definition_in mark = known_bytes (mark_value_in mark 0xD608)

-- behind a paragraph that is so, has its mark alone or not, and is the end of a row of this definition or of none
abbrev pub tables_by : Tables → Standing → Bool → List ℕ → Tables
tables_by tables Outside is_mark definition = behind_outside tables
tables_by tables Inside is_mark definition = behind_inside tables
tables_by tables Cell is_mark definition = behind_cell tables is_mark
tables_by tables Row is_mark definition = behind_row tables false definition
tables_by tables HeadRow is_mark definition = behind_row tables true definition

-- behind a paragraph with this last item
abbrev pub tables_behind : Tables → Bool → Option Item → Tables
tables_behind tables is_mark None = behind_outside tables
tables_behind tables is_mark (Some last) =
    tables_by tables (standing_of last.unit last.mark) is_mark (definition_in last.mark)

-- behind paragraphs, the first of which has a number and a place; of each is said by its number, its place and the count of
-- its items whether it has its mark alone
unfoldable pub tables_from : (ℕ → ℕ → ℕ → Bool) → ℕ → ℕ → Tables → List (List Item) → Tables
tables_from is_mark number place tables [] = tables
tables_from is_mark number place tables (items ∷ more) =
    tables_from is_mark (number + 1) (place + length items) (tables_behind tables (is_mark number place (length items))
    (slice_get items (length items - 1))) more

abbrev pub cells_in : (ℕ → ℕ → ℕ → Bool) → List Item → List (Option Span)
cells_in is_mark text = (behind_outside (tables_from is_mark 0 0 no_tables (stretches is_inside text))).spans

-- ---- tables inside of cells

-- [MS-DOC] sprmPItap: 1 where it is not there
abbrev pub depth_of : Option (List ℕ) → ℕ
depth_of None = 1
depth_of (Some value) = if length value == 4 then u32_at value 0 else 1

-- that of a paragraph that ends a cell or a row of a table that is in no other one, or is in none
abbrev pub outer_depth : Bool → Depth
outer_depth is_mark = record { depth = 1; ends_cell = false; ends_row = false; is_mark = is_mark }

-- [MS-DOC] sprmPItap, sprmPFInnerTableCell and sprmPFInnerTtp: 6649, 244B and 244C
abbrev pub inner_depth : Option Mark → Bool → Depth
inner_depth mark is_mark = record {
  depth = depth_of (mark_value_in mark 0x6649);
  ends_cell = is_byte_one (mark_value_in mark 0x244B);
  ends_row = is_byte_one (mark_value_in mark 0x244C);
  is_mark = is_mark;
}

-- that of a paragraph that is so, and has its mark alone or not
abbrev pub depth_by : Standing → Option Mark → Bool → Depth
depth_by Outside mark is_mark = outer_depth is_mark
depth_by Inside mark is_mark = inner_depth mark is_mark
depth_by Cell mark is_mark = outer_depth is_mark
depth_by Row mark is_mark = outer_depth is_mark
depth_by HeadRow mark is_mark = outer_depth is_mark

-- that of a paragraph with this last item
abbrev pub depth_ending : Bool → Option Item → Depth
depth_ending is_mark None = outer_depth is_mark
depth_ending is_mark (Some last) = depth_by (standing_of last.unit last.mark) last.mark is_mark

-- those of paragraphs, the first of which has a number and a place
unfoldable pub depths_from : (ℕ → ℕ → ℕ → Bool) → ℕ → ℕ → List (List Item) → List Depth
depths_from is_mark number place [] = []
depths_from is_mark number place (items ∷ more) =
    depth_ending (is_mark number place (length items)) (slice_get items (length items - 1))
    ∷ depths_from is_mark (number + 1) (place + length items) more

abbrev pub nested_in : (ℕ → ℕ → ℕ → Bool) → List Item → NestedTables
nested_in is_mark text = tables_of (depths_from is_mark 0 0 (stretches is_inside text))
