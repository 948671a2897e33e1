use Rattle.std.proofs.Common.{◌≡◌, ◌∙◌, ap, length, slice_index}
use Rattle.doc_parts.specs.Tabulated.{tabulate}
use Rattle.doc_parts.proofs.Public.{length-tabulate}
use Rattle.list_numbers.specs.Numbers.{placed_unit}
use Rattle.list_numbers.proofs.PlacedLemmas.{itself}
use Rattle.list_numbers.proofs.level_text.push_text.Goals as goal

pub push_long-requires : goal.push_long-requires
push_long-requires c =
    let f = placed_unit c.args.levels.now c.args.own (λ level. slice_index c.args.counts.now level) in
    ap length (c.deref.ensures.value ∙ c.in_ok-numbers.ensures) ∙ length-tabulate f 9
