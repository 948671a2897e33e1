use Rattle.std.proofs.Common.{◌+◌, ◌-◌, arith}
use Rattle.cfb_in_place.proofs.RoleLemmas.{row_more}
use Rattle.cfb_in_place.proofs.roles.row_behind.Goals as goal

pub loop-number-preserved : goal.loop-number-preserved
loop-number-preserved c =
    let low = c.loop-number.auto.number in
    row_more c.args.front.now c.loop-number.numbers.items c.push.new.self.items c.args.from c.loop-number.number
    (c.loop-number.number - c.args.from) (c.loop-number.number + 1 - c.args.from) c.loop-number.invariant
    c.in_ok-push.ensures.items (omega arith) (omega arith)
