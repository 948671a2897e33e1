use Rattle.std.proofs.Common.{◌≡◌, ◌⊎◌, ℕ, ◌-◌, List, length, take, drop, sym, ◌∙◌, subst, arith, length-drop}
use Rattle.std.proofs.lemmas.List.{take_all}
use Rattle.doc_bits.specs.Rules.{LeastOrNone}
use Rattle.doc_bits.proofs.Public.{least_either, lesser_none}
use Rattle.style_sheet.specs.StyleDefinition.{upx_place}
use Rattle.style_sheet.specs.Stsh.{IsParagraphFault, IsCharacterFault}
use Rattle.style_sheet.proofs.definition.paragraph_fault.Goals as goal

rest_of : (xs : List ℕ) → take (length xs - 2) (drop 2 xs) ≡ drop 2 xs
rest_of xs = take_all (length xs - 2) (drop 2 xs) (omega (arith, length-drop {A = ℕ}))

pub returns-clause-first : goal.returns-clause-first
returns-clause-first c =
    let std = c.args.std.now in
    let base = c.args.base in
    let at = c.first_upx-at.ensures.place in
    let next = c.next_place-next.ensures.next in
    let first = rw (rest_of c.counted_bytes.result.now, c.counted_bytes.ensures.bytes, at) at
    c.fault_in-paragraphs.ensures.first in
    let second = rw (c.counted_bytes-2.ensures.bytes, next, at) at c.fault_in-characters.ensures.first in
    subst (LeastOrNone (λ offset. IsParagraphFault std base offset ⊎ IsCharacterFault std (upx_place std base 1)
    offset)) (sym c.lesser.ensures)
    (least_either (IsParagraphFault std base) (IsCharacterFault std (upx_place std base 1))
    c.fault_in-paragraphs.result c.fault_in-characters.result first second)

pub returns-clause-accepted : goal.returns-clause-accepted
returns-clause-accepted c = λ none.
    let at = c.first_upx-at.ensures.place in
    let next = c.next_place-next.ensures.next in
    let both = lesser_none c.fault_in-paragraphs.result c.fault_in-characters.result (sym c.lesser.ensures ∙ none) in
    record {
      paragraphs = rw (rest_of c.counted_bytes.result.now, c.counted_bytes.ensures.bytes, at) at
          (c.fault_in-paragraphs.ensures.accepted both.0);
      characters = rw (c.counted_bytes-2.ensures.bytes, next, at) at (c.fault_in-characters.ensures.accepted both.1);
    }
