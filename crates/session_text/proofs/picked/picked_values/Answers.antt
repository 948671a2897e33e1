use Rattle.std.proofs.Common.{◌≤◌, ◌∙◌, ◌++◌, ◌+◌, List, refl, ap, sym, take, length, arith}
use Rattle.std.specs.Prelude.{slice_range}
use Rattle.std.proofs.lemmas.List.{take_all}
use Rattle.doc_columns.proofs.Public.{start_at, begins_at_start}
use Rattle.session_text.specs.WrittenAgain.{renewed_values, values_for}
use Rattle.session_text.specs.Picked.{values_of_both}
use Rattle.session_text.proofs.PickLemmas.{picked_more, next_total, total_upto, renewed_few}
use Rattle.session_text.proofs.picked.picked_values.Goals as goal

pub loop-number-init : goal.loop-number-init
loop-number-init g c =
    let lists = c.args.lists.now in
    let first = begins_at_start c.new.result c.new.ensures in
    let second = begins_at_start c.new-2.result c.new-2.ensures in
    record {
      walk = c.walk-walk.ensures;
      cp = refl;
      read = record {
        first = start_at lists.first.now c.new.result c.new.ensures;
        second = start_at lists.second.now c.new-2.result c.new-2.ensures;
        first_ahead = omega (arith, first);
        second_ahead = omega (arith, second);
      };
      values = c.new-values.ensures;
    }

pub put-requires-clause-within : goal.put-requires-clause-within
put-requires-clause-within g c =
    let placed = c.args.placed.now in
    let pieces = placed.pieces.now.pieces in
    omega (
      arith,
      next_total placed.places.now pieces c.loop-number.number c.loop-number.cp c.stretch-stretch.result
          c.stretch-stretch.ensures.stretch c.loop-number.invariant.cp,
      total_upto pieces (c.loop-number.number + 1),
      c.requires.within,
    )

pub put-requires-clause-room : goal.put-requires-clause-room
put-requires-clause-room g c =
    let placed = c.args.placed.now in
    let pieces = placed.pieces.now.pieces in
    let number = c.loop-number.number in
    let begins = c.stretch-stretch.ensures.stretch.begins in
    let cp = c.loop-number.invariant.cp in
    omega (
      arith,
      next_total placed.places.now pieces number c.loop-number.cp c.stretch-stretch.result
          c.stretch-stretch.ensures.stretch cp,
      total_upto pieces (number + 1),
      ap length c.loop-number.invariant.values,
      renewed_few (take number placed.places.now) (take number pieces) (values_of_both c.args.lists.now),
      begins,
      cp,
      c.requires.within,
      c.requires.few,
    )

pub loop-number-preserved : goal.loop-number-preserved
loop-number-preserved g c =
    let placed = c.args.placed.now in
    let pieces = placed.pieces.now.pieces in
    let all = values_of_both c.args.lists.now in
    let stretch = c.stretch-stretch.result in
    let more = picked_more placed.places.now pieces c.loop-number.number c.loop-number.cp stretch all
    c.stretch-stretch.ensures.stretch c.loop-number.invariant.cp c.requires.places in
    record {
      walk = c.stretch-stretch.ensures.walk ∙ c.loop-number.invariant.walk;
      cp = next_total placed.places.now pieces c.loop-number.number c.loop-number.cp stretch
          c.stretch-stretch.ensures.stretch c.loop-number.invariant.cp;
      read = c.in_ok-put.ensures.read;
      values = c.in_ok-put.ensures.values
          ∙ (ap (λ (l : List g.row.T.Denot). l ++ values_for stretch.again (slice_range all stretch.from stretch.to))
          c.loop-number.invariant.values
          ∙ sym more);
    }

pub stretch-stretch-requires-clause-below : goal.stretch-stretch-requires-clause-below
stretch-stretch-requires-clause-below g c = omega (arith, c.loop-number-test.true, c.len-number-end.ensures.value)

pub stretch-stretch-requires-clause-room : goal.stretch-stretch-requires-clause-room
stretch-stretch-requires-clause-room g c =
    omega (
      arith,
      c.loop-number.invariant.cp,
      total_upto c.args.placed.now.pieces.now.pieces c.loop-number.number,
      c.requires.within,
      c.requires.few,
    )

pub returns : goal.returns
returns g c =
    let places = c.args.placed.now.places.now in
    let pieces = c.args.placed.now.pieces.now.pieces in
    let number = c.loop-number.number in
    let past : length pieces ≤ number = omega (arith, c.loop-number-test.false, c.len-number-end.ensures.value) in
    let all = take_all number pieces past in
    let each = take_all number places (omega (arith, past, c.requires.places)) in
    c.loop-number.invariant.values
    ∙ (λ i. renewed_values (each i) (all i) (values_of_both c.args.lists.now))
