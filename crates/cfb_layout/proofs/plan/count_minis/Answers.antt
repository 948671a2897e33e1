use Rattle.std.proofs.Common.{map, ap, ◌∙◌}
use Rattle.std.proofs.lemmas.List.{take_all}
use Rattle.cfb_layout.specs.Sectors.{units_for}
use Rattle.cfb_layout.specs.Counts.{small_len, mini_counts}
use Rattle.cfb_layout.proofs.plan.count_minis.Goals as goal

pub returns : goal.returns
unfolding mini_counts
returns c = c.loop-len.invariant ∙ ap (λ lengths. map (λ len. units_for 64 (small_len len)) lengths)
    (take_all c.loop-len.len-index c.args.lengths.now c.loop-len-test.false)
