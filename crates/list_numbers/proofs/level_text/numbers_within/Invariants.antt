use Rattle.std.proofs.Common.{◌≡◌, slice_index}
use Rattle.doc_parts.specs.Tabulated.{tabulate}
use Rattle.list_numbers.specs.Numbers.{placed_unit}
use Rattle.list_numbers.proofs.level_text.numbers_within.Given as goal

abbrev pub invariant-loop-unit : goal.invariant-loop-unit
invariant-loop-unit l = l.numbers.items ≡ tabulate (placed_unit l.levels l.own (λ level. slice_index l.counts level))
    l.unit
