use Rattle.std.proofs.Common.{[], sym, ◌∙◌}
use Rattle.fkp_pages.proofs.RowLemmas.{numbered_bins-none, next_range}
use Rattle.fkp_pages.proofs.packing.Pages.ranges.Goals as goal

pub loop-i-init : goal.loop-i-init
loop-i-init c = c.new-ranges.ensures ∙ sym (numbered_bins-none c.args.number)

pub loop-i-preserved : goal.loop-i-preserved
loop-i-preserved c =
    next_range c.args.number c.loop-i.i c.get.result c.args.self.now.starts [] c.loop-i.ranges c.add.new.self
    c.get.ensures c.loop-i.invariant c.in_ok-add.ensures.ok
