use Rattle.std.proofs.Common.{length, sym, ap, ◌∙◌}
use Rattle.std.specs.List.{flat_map}
use Rattle.sprm_table.specs.Sprm.{spelling}
use Rattle.prop_map.specs.Modifiers.{clear_prls}
use Rattle.prop_map.proofs.PrintedLemmas.{length-clear}
use Rattle.prop_map.proofs.modifiers.clear_len.Goals as goal

pub returns-then-clear-clause-len : goal.returns-then-clear-clause-len
returns-then-clear-clause-len c = sym (ap (λ clear. length (flat_map spelling (clear_prls clear))) c.if-clear.true ∙
    length-clear)
