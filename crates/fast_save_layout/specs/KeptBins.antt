-- The ranges of an old bin table that a save behind its stream keeps: those that begin before the added text.
use Rattle.std.specs.Prelude.{ℕ, nat_lt, min, List, map, filter}
use Rattle.std.specs.List.{range_with_len}
use Rattle.doc_bits.specs.Plc.{plc_cp}
use Rattle.fkp_pages.specs.declared.lists.Bin.{Bin}
use Rattle.fkp_pages.specs.Bin.{bin_count, page_number}

-- a range of a table: where it begins, and its page
abbrev pub bin_of : List ℕ → ℕ → Bin
bin_of table k = record { first = plc_cp table k; page = page_number table k }

abbrev pub bins_of : List ℕ → List Bin
bins_of table = map (bin_of table) (range_with_len 0 (bin_count table))

abbrev pub kept_bins : List ℕ → ℕ → List Bin
kept_bins table before = filter (λ bin. nat_lt bin.first before) (bins_of table)

-- where these ranges end: the table's end, but before the added text
abbrev pub kept_end : List ℕ → ℕ → ℕ
kept_end table before = min (plc_cp table (bin_count table)) before
