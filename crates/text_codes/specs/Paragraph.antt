-- [MS-DOC] The units that end a paragraph.
use Rattle.std.specs.Prelude.{ℕ, Bool, ◌||◌, ◌&&◌, ◌==◌}

-- a paragraph mark, the mark of a cell or of a row, and what ends a section where one ends there
abbrev pub paragraph_mark : ℕ
paragraph_mark = 0x0D

abbrev pub cell_mark : ℕ
cell_mark = 0x07

abbrev pub section_mark : ℕ
section_mark = 0x0C

-- a paragraph ends at 0x0D and 0x07, and at a 0x0C that ends a section
abbrev pub is_paragraph_end : ℕ → Bool → Bool
is_paragraph_end unit section_end =
    unit == paragraph_mark || (unit == cell_mark || (unit == section_mark && section_end))
