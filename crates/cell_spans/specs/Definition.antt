-- [MS-DOC] TDefTableOperand, behind the count of its bytes: NumberOfColumns, one edge more (rgdxaCenter), and the cells
-- (rgTc80).
use Rattle.std.specs.Prelude.{ℕ, zero, suc, ◌+◌, ◌-◌, ◌*◌, ◌/◌, ◌%◌, ◌==◌, nat_le, nat_lt, Bool, true, false, ◌&&◌, List, []}
use Rattle.std.specs.Prelude.{if◌then◌else◌, length, slice_index}
use Rattle.doc_bits.specs.Number.{u16_at}

-- a row has at most 63 cells
abbrev pub count_in : ℕ → ℕ → ℕ
count_in count len = if nat_le count 63 && nat_le (3 + 2 * count) len then count else 0

abbrev pub cell_count : List ℕ → ℕ
cell_count definition =
    if nat_lt (length definition) 3 then 0 else count_in (slice_index definition 0) (length definition)

abbrev pub number_in : List ℕ → ℕ → ℕ
number_in definition at = if nat_le (at + 2) (length definition) then u16_at definition at else 0

-- a signed number, and 32,768 more, so that none is below zero
abbrev pub biased : ℕ → ℕ
biased value = if nat_lt value 32768 then value + 32768 else value - 32768

-- the edge with this number, from 0
abbrev pub edge : List ℕ → ℕ → ℕ
edge definition number =
    if nat_lt (cell_count definition) number then 0 else biased (number_in definition (1 + 2 * number))

-- the edge on the right of a cell is behind the one on its left
abbrev pub is_wide : List ℕ → ℕ → Bool
is_wide definition cell = nat_lt (edge definition cell) (edge definition (cell + 1))

-- so many cells are so
abbrev pub ascends : List ℕ → ℕ → Bool
ascends definition zero = true
ascends definition (suc count) = ascends definition count && is_wide definition count

-- a definition whose edges do not ascend says nothing
abbrev pub right_definition : List ℕ → List ℕ
right_definition definition = if ascends definition (cell_count definition) then definition else []

-- whether the TCGRF of a cell has the bit of this weight; a TC80 that is not there is zeros
abbrev pub flag : List ℕ → ℕ → ℕ → Bool
flag definition cell weight =
    if nat_le (cell_count definition) cell then false else number_in definition (3 + 2 * cell_count definition + 20
    * cell) / weight % 2 == 1
