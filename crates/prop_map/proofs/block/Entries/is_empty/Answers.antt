use Rattle.std.proofs.Common.{◌∙◌, ◌==◌, ap, length}
use Rattle.prop_map.proofs.BlockLemmas.{empty_alike}
use Rattle.prop_map.proofs.block.Entries.is_empty.Goals as goal

pub returns : goal.returns
returns c = c.is_empty.ensures ∙ (empty_alike c.self.inside.left.now c.self.invariant ∙ ap (λ es. length es == 0)
    c.self.view_is)
