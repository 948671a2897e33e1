use Rattle.std.proofs.Common.{◌∙◌, ap}
use Rattle.list_numbers.specs.MarkValues.{over}
use Rattle.list_numbers.proofs.KnownLemmas.{mark_said}
use Rattle.list_numbers.proofs.style_values.values_of_mark.Goals as goal

pub returns-clause-values : goal.returns-clause-values
returns-clause-values c =
    mark_said c.args.sheet.now c.args.mark.now c.in_ok-below.below c.over.result c.in_ok-below.ensures.values
    (c.over.ensures ∙ ap (λ o. over o c.in_ok-below.below) c.own-own.ensures)
