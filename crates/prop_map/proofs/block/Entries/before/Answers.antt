use Rattle.std.proofs.Common.{sym, ap, ◌∙◌, ◌++◌}
use Rattle.prop_map.proofs.BlockLemmas.{bytes_before}
use Rattle.prop_map.proofs.block.Entries.before.Goals as goal

pub returns : goal.returns
returns c = λ below e.
    bytes_before c.self.inside.left.now c.rest.inside.left.now c.saturating_sub-len.result below c.self.invariant
    c.rest.invariant (c.self.view_is ∙ (e ∙ ap (λ l. below ++ l) (sym c.rest.view_is))) c.saturating_sub-len.ensures
