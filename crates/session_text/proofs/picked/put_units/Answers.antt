use Rattle.std.proofs.Common.{◌≡◌, ◌∙◌, ◌++◌, ◌-◌, true, ap, sym, append_assoc, arith}
use Rattle.std.specs.Prelude.{slice_range}
use Rattle.session_text.specs.WrittenAgain.{values_for}
use Rattle.session_text.proofs.PickLemmas.{range_of_two}
use Rattle.session_text.proofs.picked.put_units.Goals as goal

pub returns : goal.returns
returns c =
    let first = c.args.first.now in
    let second = c.args.second.now in
    let stretch = c.args.stretch in
    let out = c.args.out.now.items in
    let front = slice_range first c.min-from.result c.min-to.result in
    let back = slice_range second (stretch.from - c.min-from.result) (stretch.to - c.min-to.result) in
    let on : stretch.again ≡ true = grind (arith, c.if-not-stretch.false) in
    let both = range_of_two first second stretch.from stretch.to c.min-from.result c.min-to.result c.requires.order
    c.min-from.ensures c.min-to.ensures in
    c.in_ok-extend_from_slice-2.ensures.items
    ∙ (ap (λ l. l ++ back) c.in_ok-extend_from_slice.ensures.items
    ∙ (append_assoc out front back
    ∙ (ap (λ l. out ++ l) (sym both)
    ∙ ap (λ b. out ++ values_for b (slice_range (first ++ second) stretch.from stretch.to)) (sym on))))
