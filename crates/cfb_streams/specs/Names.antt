-- The names of streams, and their comparison as a test.
use Rattle.std.specs.Prelude.{ℕ, ◌==◌, Bool, ◌&&◌, List, length, slice_index, codes, if◌then◌else◌}
use Rattle.std.specs.List.{list_all, range_with_len}
use Rattle.cfb_directory.specs.Directory.{upper_case}

-- [MS-DOC] the stream that begins with the FIB, and the two of which one is the table stream
abbrev pub wd_name : List ℕ
wd_name = codes "WordDocument"

abbrev pub first_table_name : List ℕ
first_table_name = codes "0Table"

abbrev pub second_table_name : List ℕ
second_table_name = codes "1Table"

-- [MS-DOC] fWhichTblStm: which of the two it is
abbrev pub table_name : ℕ → List ℕ
table_name which = if which == 1 then second_table_name else first_table_name

-- the names are equal: they have one length, and their units are equal in upper case
abbrev pub is_same_name : List ℕ → List ℕ → Bool
is_same_name name other =
    length name == length other
    && list_all (λ i. upper_case (slice_index name i) == upper_case (slice_index other i))
    (range_with_len 0 (length name))
