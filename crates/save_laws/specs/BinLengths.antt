-- How long a bin table is that keeps ranges of an older one and names further pages.
use Rattle.std.specs.Prelude.{◌≡◌, ℕ, ◌+◌, ◌*◌, ◌≤◌, List, ◌++◌, length}
use Rattle.fkp_pages.specs.declared.lists.Bin.{Bin}
use Rattle.fkp_pages.specs.Bin.{printed_bin, bin_count, IsBinTable}
use Rattle.fkp_pages.specs.InARow.{numbered_bins}

-- a table has four bytes, and eight for each range
abbrev pub BinTableIsLong : Type 0
BinTableIsLong = (bins : List Bin) (end : ℕ) → length (printed_bin bins end) ≡ 4 + 8 * length bins

-- a table of no more ranges than an older one, and of pages that begin at these fcs, has eight bytes a page more
abbrev pub LongerTablesAreShort : Type 0
LongerTablesAreShort =
    (old : List ℕ) (bins : List Bin) (number : ℕ) (starts : List ℕ) (end : ℕ) → IsBinTable old →
    length bins ≤ bin_count old →
    length (printed_bin (bins ++ numbered_bins number starts) end) ≤ length old + 8 * length starts
