use Rattle.list_numbers.proofs.ListLemmas.{no_levels_read, next_is_whole, level_read}
use Rattle.list_numbers.proofs.reading.read_levels.Goals as goal

pub loop-j-init : goal.loop-j-init
loop-j-init c = rw c.new-levels.ensures (no_levels_read c.args.bytes.now c.args.at.now)

pub read_level-requires : goal.read_level-requires
read_level-requires c =
    next_is_whole c.args.bytes.now c.args.at.now c.args.count c.loop-j.at c.loop-j._j c.loop-j.levels c.requires
    c.loop-j.invariant c.loop-j-test.true

pub level_end-requires : goal.level_end-requires
level_end-requires c =
    next_is_whole c.args.bytes.now c.args.at.now c.args.count c.loop-j.at c.loop-j._j c.loop-j.levels c.requires
    c.loop-j.invariant c.loop-j-test.true

pub loop-j-preserved : goal.loop-j-preserved
loop-j-preserved c =
    rw (c.in_ok-add.ensures, c.in_ok-read_level.ensures, c.level_end.ensures)
    (level_read c.args.bytes.now c.args.at.now c.loop-j.at c.loop-j._j c.loop-j.levels c.loop-j.invariant)
