-- [MS-DOC] Rows of a table: cells end with 0x07, and so does the row, whose mark has sprmPFTtp, 2417, and its cells in
-- sprmTDefTable, D608. A paragraph of a cell has sprmPFInTable, 2416. No count is carried here: the cells of an open
-- row are those after the last row mark.
use Rattle.std.specs.Prelude.{◌≡◌, ◌≢◌, ◌⊎◌, ℕ, ◌+◌, ◌==◌, if◌then◌else◌, Bool, false, ◌&&◌, not, List, length, take}
use Rattle.std.specs.Prelude.{reverse, slice_get, slice_index, is_some, Option, Some, None, IsTrue}
use Rattle.std.specs.List.{count_by, take_while}
use Rattle.std.specs.FinMap.{get}
use Rattle.text_codes.specs.Paragraph.{cell_mark}
use Rattle.doc_model.specs.declared.item.Item.{Item}
use Rattle.doc_model.specs.declared.item.Mark.{Mark}
use Rattle.plain_doc.specs.RulesOfItems.{IsWrongItem}

-- the value that a mark has at a code
abbrev pub mark_value_in : Option Mark → ℕ → Option (List ℕ)
mark_value_in None code = None
mark_value_in (Some mark) code = get mark.pap code

-- the value that the item's mark, where there is one, has at a code
abbrev pub paragraph_value : Item → ℕ → Option (List ℕ)
paragraph_value item code = mark_value_in item.mark code

-- the value is there, and it is the byte 01
abbrev pub is_byte_one : Option (List ℕ) → Bool
is_byte_one None = false
is_byte_one (Some value) = length value == 1 && slice_index value 0 == 1

-- the end of a row
abbrev pub is_row_mark : Item → Bool
is_row_mark item = item.unit == cell_mark && is_byte_one (paragraph_value item 0x2417)

-- the end of a cell
abbrev pub is_cell_mark : Item → Bool
is_cell_mark item = item.unit == cell_mark && not (is_byte_one (paragraph_value item 0x2417))

-- the end of a paragraph that is in no table
abbrev pub is_mark_outside : Item → Bool
is_mark_outside item =
    is_some item.mark && (not (item.unit == cell_mark) && not (is_byte_one (paragraph_value item 0x2416)))

-- the cells of the row that is open after these items: the cell marks after the last row mark
unfoldable pub open_cells : List Item → ℕ
open_cells front = count_by is_cell_mark (take_while (λ item. not (is_row_mark item)) (reverse front))

-- [MS-DOC] TDefTableOperand: its first byte after the count is the number of cells
abbrev pub HasCells : Option (List ℕ) → ℕ → Type 0
HasCells None cells = ⊥
HasCells (Some value) cells = slice_get value 0 ≡ Some cells

-- an item that is right where the open row has so many cells: a row mark gives their number, and a mark outside of
-- tables is where there are none
pub record FitsRow (cells : ℕ) (item : Item) : Type 0 where
  pub row : IsTrue (is_row_mark item) → HasCells (paragraph_value item 0xD608) cells
  pub outside : IsTrue (is_mark_outside item) → cells ≡ 0

-- an item that is not right, or the end of a text within a row
abbrev pub BreaksRows : List Item → ℕ → Type 0
BreaksRows text place =
    IsWrongItem (λ i item. FitsRow (open_cells (take i text)) item) text place
    ⊎ ((place ≡ length text) × (open_cells text ≢ 0))

-- the cells of the open row after one item more
abbrev pub cells_after : ℕ → Item → ℕ
cells_after cells item = if is_row_mark item then 0 else if is_cell_mark item then cells + 1 else cells
