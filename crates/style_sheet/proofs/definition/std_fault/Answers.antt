use Rattle.std.proofs.Common.{◌≡◌, inl, inr, sym, ◌∙◌}
use Rattle.doc_bits.proofs.Public.{least_same}
use Rattle.style_sheet.specs.StyleDefinition.{stk, upx_place}
use Rattle.style_sheet.specs.Stsh.{IsCharacterFault, HasUpxFault}
use Rattle.style_sheet.proofs.definition.std_fault.Goals as goal

pub returns-in-1-clause-first : goal.returns-in-1-clause-first
returns-in-1-clause-first c =
    let std = c.args.std.now in
    let base = c.args.base in
    let kind : stk std ≡ 1 = sym c.kind_number.ensures ∙ c.in-1.is in
    least_same _ (HasUpxFault std base) c.paragraph_fault.result
    (λ p h. inl (kind, h))
    (λ p h. elim h [
      | inl w ↦ w.1
      | inr w ↦ absurd (cc (sym kind ∙ w.0))
    ])
    c.paragraph_fault.ensures.first

pub returns-in-2-clause-first : goal.returns-in-2-clause-first
returns-in-2-clause-first c =
    let std = c.args.std.now in
    let base = c.args.base in
    let kind : stk std ≡ 2 = sym c.kind_number.ensures ∙ c.in-2.is in
    let f = c.fault_in.ensures.first in
    let list = c.counted_bytes.ensures.bytes in
    let place = c.first_upx-at.ensures.place in
    least_same (IsCharacterFault std (upx_place std base 0)) (HasUpxFault std base) c.fault_in.result
    (λ p h. inr (kind, h))
    (λ p h. elim h [
      | inl w ↦ absurd (cc (sym kind ∙ w.0))
      | inr w ↦ w.1
    ])
    (rw (list, place) at f)
