use Rattle.std.proofs.Common.{◌≡◌, rules}
use Rattle.fkp_pages.specs.Bin.{printed_bin}
use Rattle.fkp_pages.proofs.PrintedBinLemmas.{printed_all, printed_table}
use Rattle.fkp_pages.proofs.bin_table.write_bin.Goals as goal

pub returns-clause-table : goal.returns-clause-table
returns-clause-table c =
    let items = c.deref-bin-items-2.result.now in
    let view : items ≡ c.args.bins.now = search rules in
    let same : c.loop-bin-2.bytes ≡ printed_bin c.args.bins.now c.args.end =
    printed_all c.args.bins.now items c.args.end c.loop-bin-2.bin-index c.loop-bin-2.bytes view
    c.loop-bin-2-test.false c.loop-bin-2.invariant in
    rw same (printed_table c.args.bins.now c.args.end c.requires c.ranges.end.fits)
