use Rattle.std.proofs.Common.{◌≡◌, ◌+◌, ◌-◌, ◌≤◌, ◌<◌, subst, arith, ltb-true}
use Rattle.std.specs.Prelude.{slice_index}
use Rattle.text_codes.specs.Paragraph.{paragraph_mark}
use Rattle.text_codes.proofs.ParagraphLemmas.{unit_above}
use Rattle.text_codes.proofs.paragraph.is_above.Goals as goal

pub returns : goal.returns
returns c = λ true k behind before.
    let units = c.args.units.now in
    let at = c.args.at in
    let high : paragraph_mark < c.least.result = ltb-true _ _ true in
    let there : at + (k - at) ≡ k = omega (arith, behind) in
    let low : c.least.result ≤ slice_index units k =
    subst (λ n. c.least.result ≤ slice_index units n) there (c.least.ensures (k - at) (omega (arith, behind, before)))
    in
    unit_above (slice_index units k) (omega (arith, high, low))
