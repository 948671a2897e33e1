-- The lengths of bin tables.
use Rattle.std.proofs.Common.{◌++◌, arith, length-append}
use Rattle.fkp_pages.specs.InARow.{numbered_bins}
use Rattle.fkp_pages.proofs.Public.{length-printed_bin, length-numbered_bins}
use Rattle.save_laws.specs.BinLengths.{BinTableIsLong, LongerTablesAreShort}

pub bin_table_is_long : BinTableIsLong
bin_table_is_long bins end = length-printed_bin bins end

pub longer_tables_are_short : LongerTablesAreShort
longer_tables_are_short old bins number starts end is few =
    omega (
      arith,
      few,
      is.table,
      length-printed_bin (bins ++ numbered_bins number starts) end,
      length-append bins (numbered_bins number starts),
      length-numbered_bins number starts,
    )
