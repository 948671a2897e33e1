-- [MS-DOC] PlcBteChpx, PlcBtePapx: which pages a bin table names. One that is named has the mark 1, another one 0.
use Rattle.std.specs.Prelude.{ℕ, ◌==◌, Bool, List, map, if◌then◌else◌}
use Rattle.std.specs.List.{list_any, range_with_len}
use Rattle.fkp_pages.specs.Bin.{bin_count, page_number}

-- a range of the table names the page
abbrev pub names_page : List ℕ → ℕ → Bool
names_page bin number =
    list_any (λ page. page == number) (map (page_number bin) (range_with_len 0 (bin_count bin)))

abbrev pub named_flag : Bool → ℕ
named_flag named = if named then 1 else 0
