use Rattle.std.proofs.Common.{◌≡◌, List, ℕ, sym, subst}
use Rattle.std.specs.Prelude.{slice_index, IfOk}
use Rattle.list_numbers.specs.Fronts.{BeginsLong}
use Rattle.list_numbers.specs.Numbers.{number_units}
use Rattle.list_numbers.proofs.LabelLemmas.{front_taken}
use Rattle.list_numbers.proofs.label_text.label_units.Goals as goal

pub returns : goal.returns
returns c =
    let text = number_units c.args.levels.now c.args.own (λ level. slice_index c.args.counts.now level) in
    let units = c.as_slice-units.result.now in
    let begins : BeginsLong text units =
    subst (λ (us : List ℕ). BeginsLong text us) (sym c.as_slice-units.ensures) c.in_ok-units.ensures in
    subst (λ (us : List ℕ). IfOk c.from_slice.result (λ made. made ≡ us))
    (front_taken text units c.min.result begins c.min.ensures) c.from_slice.ensures
