use Rattle.std.proofs.Common.{◌≤◌, ◌∙◌, ◌++◌, ◌+◌, ap, sym, length, arith}
use Rattle.std.specs.Prelude.{slice_range}
use Rattle.std.proofs.lemmas.List.{take_all}
use Rattle.session_text.specs.WrittenAgain.{renewed_values, values_for}
use Rattle.session_text.proofs.PickLemmas.{picked_more, next_total, total_upto}
use Rattle.session_text.proofs.picked.picked_units.Goals as goal

pub put_units-requires-clause-within : goal.put_units-requires-clause-within
put_units-requires-clause-within c =
    let placed = c.args.placed.now in
    let pieces = placed.pieces.now.pieces in
    omega (
      arith,
      next_total placed.places.now pieces c.loop-number.number c.loop-number.cp c.stretch-stretch.result
          c.stretch-stretch.ensures.stretch c.loop-number.invariant.cp,
      total_upto pieces (c.loop-number.number + 1),
      c.requires.within,
    )

pub loop-number-preserved : goal.loop-number-preserved
loop-number-preserved c =
    let placed = c.args.placed.now in
    let pieces = placed.pieces.now.pieces in
    let all = c.args.first.now ++ c.args.second.now in
    let stretch = c.stretch-stretch.result in
    let more = picked_more placed.places.now pieces c.loop-number.number c.loop-number.cp stretch all
    c.stretch-stretch.ensures.stretch c.loop-number.invariant.cp c.requires.places in
    record {
      walk = c.stretch-stretch.ensures.walk ∙ c.loop-number.invariant.walk;
      cp = next_total placed.places.now pieces c.loop-number.number c.loop-number.cp stretch
          c.stretch-stretch.ensures.stretch c.loop-number.invariant.cp;
      units = c.in_ok-put_units.ensures
          ∙ (ap (λ l. l ++ values_for stretch.again (slice_range all stretch.from stretch.to))
          c.loop-number.invariant.units
          ∙ sym more);
    }

pub stretch-stretch-requires-clause-below : goal.stretch-stretch-requires-clause-below
stretch-stretch-requires-clause-below c = omega (arith, c.loop-number-test.true, c.len-number-end.ensures.value)

pub stretch-stretch-requires-clause-room : goal.stretch-stretch-requires-clause-room
stretch-stretch-requires-clause-room c =
    omega (
      arith,
      c.loop-number.invariant.cp,
      total_upto c.args.placed.now.pieces.now.pieces c.loop-number.number,
      c.requires.within,
      c.requires.few,
    )

pub returns : goal.returns
returns c =
    let places = c.args.placed.now.places.now in
    let pieces = c.args.placed.now.pieces.now.pieces in
    let number = c.loop-number.number in
    let past : length pieces ≤ number = omega (arith, c.loop-number-test.false, c.len-number-end.ensures.value) in
    let all = take_all number pieces past in
    let each = take_all number places (omega (arith, past, c.requires.places)) in
    c.loop-number.invariant.units
    ∙ (λ i. renewed_values (each i) (all i) (c.args.first.now ++ c.args.second.now))
