use Rattle.std.proofs.Common.{◌≡◌, ◌≤◌, ◌<◌, length, ap, arith}
use Rattle.std.specs.Prelude.{slice_index}
use Rattle.list_numbers.specs.Numbers.{placed_unit}
use Rattle.list_numbers.proofs.LabelLemmas.{text_front}
use Rattle.list_numbers.proofs.label_text.front_of_text.Goals.{then-loop-i-test+else-as_slice-lt-MAX_UNITS}
use Rattle.list_numbers.proofs.label_text.front_of_text.Goals.{else-loop-i-test}
use Rattle.list_numbers.proofs.label_text.front_of_text.Goals as goal

pub returns : goal.returns
returns c =
    let long : c.loop-i.i < length c.args.text.now → 64 ≤ length c.loop-i.units = λ more.
    elim c.loop-i-test.branch [
      | then-loop-i-test+else-as_slice-lt-MAX_UNITS w ↦
          let same : length w.as_slice.result.now ≡ length c.loop-i.units = ap length w.as_slice.ensures in
          omega (arith, w.if-as_slice-lt-MAX_UNITS.false, same)
      | else-loop-i-test w ↦ absurd (omega (arith, w.loop-i-test.false, more))
    ] in
    text_front (placed_unit c.args.levels.now c.args.own (λ level. slice_index c.args.counts.now level)) c.args.text.now
    c.loop-i.units c.loop-i.i c.loop-i.invariant.units long
