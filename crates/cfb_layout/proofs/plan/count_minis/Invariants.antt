use Rattle.std.proofs.Common.{◌≡◌, take, map}
use Rattle.cfb_layout.specs.Sectors.{units_for}
use Rattle.cfb_layout.specs.Counts.{small_len}
use Rattle.cfb_layout.proofs.plan.count_minis.Given as goal

abbrev pub invariant-loop-len : goal.invariant-loop-len
invariant-loop-len l = l.counts.items ≡ map (λ len. units_for 64 (small_len len)) (take l.len-index l.lengths)
