use Rattle.std.proofs.Common.{List, ℕ, sym, subst}
use Rattle.list_numbers.specs.Fronts.{BeginsLong}
use Rattle.list_numbers.proofs.LabelLemmas.{cut_front}
use Rattle.list_numbers.proofs.label_text.front_of_units.Goals as goal

pub returns : goal.returns
returns c =
    let text = c.args.text.now in
    subst (λ (units : List ℕ). BeginsLong text units) (sym c.in_ok-units.ensures)
    (cut_front text c.min.result c.min.ensures)
