use Rattle.std.proofs.Common.{◌≡◌, ◌++◌, map, take}
use Rattle.std.specs.Prelude.{slice_index}
use Rattle.std.specs.String.{string_bytes}
use Rattle.list_numbers.specs.NumberText.{in_case}
use Rattle.list_numbers.proofs.roman.push_digit.Given as goal

abbrev pub invariant-loop-step : goal.invariant-loop-step
invariant-loop-step l =
    string_bytes l.text ≡ string_bytes l.fn.text ++ map (λ step. in_case l.case (slice_index l.place step)) (take
    l.step-index l.step-items)
