use Rattle.std.proofs.Common.{◌≡◌, ◌+◌, ◌-◌, ◌∙◌, false, ap, subst, arith}
use Rattle.std.specs.Prelude.{slice_index}
use Rattle.text_codes.specs.Paragraph.{is_paragraph_end}
use Rattle.doc_read.proofs.attached.bare_until.Goals as goal
use Rattle.doc_bits.proofs.Public.{range_index}

pub returns-clause-bare : goal.returns-clause-bare
returns-clause-bare c = λ at behind before.
    let units = c.args.units.now in
    let cp = c.args.cp in
    let k = at - cp in
    let there : cp + k ≡ at = omega (arith, behind) in
    let same = range_index units cp c.args.until k (omega (arith, behind, before)) ∙ ap (λ n. slice_index units n) there
    in
    subst (λ unit. is_paragraph_end unit false ≡ false) same
    (c.bare_len.ensures.bare k (omega (arith, behind, before)))
