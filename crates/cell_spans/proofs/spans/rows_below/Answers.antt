use Rattle.std.proofs.Common.{◌≡◌, ◌∙◌, true, false, not, Some, sym, ap, arith}
use Rattle.std.specs.Prelude.{slice_get}
use Rattle.std.proofs.lemmas.Option.{slice_get-get_or}
use Rattle.cell_spans.specs.Spans.{has_part_in}
use Rattle.cell_spans.proofs.WalkLemmas.{below_ends, below_more, below_none}
use Rattle.cell_spans.proofs.spans.rows_below.Goals as goal

pub returns-then-not-goes_on_in-clause-is : goal.returns-then-not-goes_on_in-clause-is
returns-then-not-goes_on_in-clause-is c =
    let k = c.loop-number.number in
    let rows = c.args.rows.now in
    let row = c.index-rows-number.result in
    let there : slice_get rows k ≡ Some row =
    slice_get-get_or rows k row (omega arith) ∙ sym (λ i. Some (c.index-rows-number.is i)) in
    let off : has_part_in c.args.cell row ≡ false =
    ap (has_part_in c.args.cell) (sym c.as_slice.ensures) ∙ sym c.goes_on_in.ensures
    ∙ c.if-not-goes_on_in.true in
    let none = below_ends c.args.cell rows k row there off in
    let so_far = c.loop-number.invariant in
    omega (arith, none, so_far)

pub loop-number-preserved : goal.loop-number-preserved
loop-number-preserved c =
    let k = c.loop-number.number in
    let rows = c.args.rows.now in
    let row = c.index-rows-number.result in
    let there : slice_get rows k ≡ Some row =
    slice_get-get_or rows k row (omega arith) ∙ sym (λ i. Some (c.index-rows-number.is i)) in
    let on : has_part_in c.args.cell row ≡ true =
    ap (has_part_in c.args.cell) (sym c.as_slice.ensures) ∙ sym c.goes_on_in.ensures
    ∙ c.if-not-goes_on_in.false in
    let more = below_more c.args.cell rows k row there on in
    let so_far = c.loop-number.invariant in
    omega (arith, more, so_far)

pub returns-clause-is : goal.returns-clause-is
returns-clause-is c =
    let none = below_none c.args.cell c.args.rows.now c.loop-number.number (omega arith) in
    let so_far = c.loop-number.invariant in
    omega (arith, none, so_far)
