-- The rows of tables that break rule 63. A row is what is behind the end of the row before it, or behind a
-- paragraph that is in no table, up to its own end; it breaks the rule where an item is that may not be behind
-- its cells, or where the text ends.
use Rattle.std.specs.Prelude.{ℕ, ◌+◌, ◌-◌, ◌==◌, Bool, false, ◌||◌, not, List, [], ◌++◌, length, take, reverse}
use Rattle.std.specs.Prelude.{Option, Some, None, slice_get, if◌then◌else◌}
use Rattle.std.specs.Option.{unwrap_or}
use Rattle.std.specs.List.{count_by, take_while, filter_map, flat_map}
use Rattle.std.specs.FinMap.{empty}
use Rattle.doc_bits.specs.declared.places.Story.{Story}
use Rattle.doc_bits.specs.declared.places.Story.TheVariants.{Main}
use Rattle.doc_parts.specs.Tabulated.{tabulate}
use Rattle.doc_model.specs.declared.item.Item.{Item}
use Rattle.doc_model.specs.declared.item.Mark.{Mark}
use Rattle.doc_model.specs.declared.document.Document.{Document}
use Rattle.plain_doc.specs.declared.rules_texts.Side.{Side}
use Rattle.plain_doc.specs.declared.rules_texts.Side.TheVariants.{Notes, Heads}
use Rattle.plain_doc.specs.Rows.{is_row_mark, is_cell_mark, is_mark_outside, paragraph_value}
use Rattle.doc_mends.specs.declared.mends.BrokenRow.{BrokenRow}
use Rattle.doc_mends.specs.Sides.{side_name}

-- ---- rows

-- what is behind such an item is in no row with it
abbrev pub parts_rows : Item → Bool
parts_rows item = is_row_mark item || is_mark_outside item

-- the items of the row that is open after these, the last of them first
unfoldable pub open_items : List Item → List Item
open_items front = take_while (λ item. not (parts_rows item)) (reverse front)

abbrev pub open_length : List Item → ℕ
open_length front = length (open_items front)

-- how many cells they end
abbrev pub cells_of_row : List Item → ℕ
cells_of_row front = count_by is_cell_mark (open_items front)

-- ---- which break the rule

abbrev pub is_count : ℕ → Option ℕ → Bool
is_count cells None = false
is_count cells (Some count) = count == cells

-- [MS-DOC] TDefTableOperand: its first byte after the count is the number of cells
abbrev pub names_cells : ℕ → Option (List ℕ) → Bool
names_cells cells None = false
names_cells cells (Some value) = is_count cells (slice_get value 0)

-- an item that is right where the open row has so many cells, as `FitsRow` of the rules says
abbrev pub fits_row : ℕ → Item → Bool
fits_row cells item =
    if is_row_mark item then names_cells cells (paragraph_value item 0xD608)
    else (cells == 0 || not (is_mark_outside item))

-- the same of the item that is behind the open row, or of the end of the text
abbrev pub fits_behind : ℕ → Option Item → Bool
fits_behind cells None = cells == 0
fits_behind cells (Some item) = fits_row cells item

-- the mark of a row is an item of the row
abbrev pub mark_length : Option Item → ℕ
mark_length None = 0
mark_length (Some item) = if is_row_mark item then 1 else 0

-- the row that has so many items and cells before a place, where it breaks the rule there
abbrev pub broken_row : Story → ℕ → ℕ → ℕ → Option Item → Option BrokenRow
broken_row story at len cells behind =
    if fits_behind cells behind then None
    else Some (record { story = story; from = at - len; len = len + mark_length behind; cells = cells })

abbrev pub broken_row_at : Story → List Item → ℕ → Option BrokenRow
broken_row_at story text at =
    broken_row story at (open_length (take at text)) (cells_of_row (take at text)) (slice_get text at)

-- those of a text
abbrev pub text_broken_rows : Story → List Item → List BrokenRow
text_broken_rows story text = filter_map (λ row. row) (tabulate (broken_row_at story text) (length text + 1))

-- those of the notes, or of the header texts
abbrev pub texts_broken_rows : Side → List (List Item) → List BrokenRow
texts_broken_rows side texts =
    flat_map (λ rows. rows)
    (tabulate (λ number. text_broken_rows (side_name side number) (unwrap_or (slice_get texts number) []))
    (length texts))

-- those of a document
abbrev pub broken_rows : Document → List BrokenRow
broken_rows document =
    text_broken_rows Main document.main
    ++ (texts_broken_rows Notes document.notes ++ texts_broken_rows Heads document.heads)

-- ---- what is looked at

-- an item by its unit and its mark
abbrev pub marked_item : ℕ → Option Mark → Item
marked_item unit mark = record { unit = unit; fld = None; note = None; chp = empty; mark = mark; sect = None }
