use Rattle.fkp_gaps.specs.Filled.{IsPageFor}
use Rattle.fkp_gaps.proofs.FilledLemmas.{whole_printable, whole_filled}
use Rattle.fkp_gaps.proofs.RangeLemmas.{first_way, joins, last_way}
use Rattle.fkp_gaps.proofs.bins.filled_bin.Goals as goal

pub loop-last-init : goal.loop-last-init
loop-last-init c =
    first_way (IsPageFor c.args.kind c.args.bin.now c.args.wd.now c.args.number) c.new-bins.result
    c.range_at-last.result c.new-bins.ensures c.range_at-last.ensures.from c.range_at-last.ensures.range

pub loop-last-preserved : goal.loop-last-preserved
loop-last-preserved c =
    joins (IsPageFor c.args.kind c.args.bin.now c.args.wd.now c.args.number) c.loop-last.bins c.joined.new.bins
    c.loop-last.last c.range_at-next.result c.in_ok-last.last c.range_at-next.ensures.from
    c.range_at-next.ensures.range c.loop-last.invariant c.in_ok-last.ensures

pub write_bin-requires : goal.write_bin-requires
write_bin-requires c =
    let right = IsPageFor c.args.kind c.args.bin.now c.args.wd.now c.args.number in
    whole_printable right c.add.new.self
    (last_way right c.loop-last.bins c.add.new.self c.loop-last.last c.loop-last.invariant c.loop-last-test.false
    c.in_ok-add.ensures.ok)

pub returns : goal.returns
returns c =
    let right = IsPageFor c.args.kind c.args.bin.now c.args.wd.now c.args.number in
    whole_filled c.args.kind c.args.bin.now c.args.wd.now c.args.number c.add.new.self c.in_ok-table.table
    (last_way right c.loop-last.bins c.add.new.self c.loop-last.last c.loop-last.invariant c.loop-last-test.false
    c.in_ok-add.ensures.ok) c.in_ok-table.ensures.bytes
