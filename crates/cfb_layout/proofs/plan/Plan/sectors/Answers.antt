use Rattle.std.proofs.Common.{◌+◌, length, ap, ◌∙◌}
use Rattle.cfb_layout.proofs.CountLemmas.{length-sector_counts}
use Rattle.cfb_layout.proofs.plan.Plan.sectors.Goals as goal

pub returns-clause-len : goal.returns-clause-len
returns-clause-len c = ap length c.self.invariant.sectors_are ∙ (length-sector_counts c.self.inside.lengths.items ∙ ap
    (λ lengths. length lengths + 3) c.self.view_is)
