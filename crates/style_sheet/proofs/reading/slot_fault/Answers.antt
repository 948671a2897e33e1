use Rattle.std.proofs.Common.{inl, inr, ◌+◌, ◌<◌, length, sym, ap, ◌∙◌, subst, arith}
use Rattle.std.proofs.lemmas.Bool.{eqb-true, eqb-false, cases_lt}
use Rattle.doc_bits.specs.Number.{u16_at}
use Rattle.doc_bits.proofs.Public.{least_from}
use Rattle.style_sheet.specs.Counted.{counted_bytes}
use Rattle.style_sheet.specs.Stsh.{HasUpxFault}
use Rattle.style_sheet.proofs.ReadLemmas.{accepted_empty, list_fault_within}
use Rattle.style_sheet.proofs.reading.slot_fault.Goals as goal

pub returns-then-is_empty-clause-accepted : goal.returns-then-is_empty-clause-accepted
returns-then-is_empty-clause-accepted c = λ none.
    let empty = eqb-true (length c.counted_bytes-std.result.now) 0 (sym c.if-is_empty.ensures) in
    accepted_empty (counted_bytes c.args.part.now c.args.place) c.args.base
    (sym (ap length c.counted_bytes-std.ensures.bytes) ∙ empty)

pub overflow_add-result-in-Some-2 : goal.overflow_add-result-in-Some-2
overflow_add-result-in-Some-2 c =
    let part = c.args.part.now in
    let std = counted_bytes part c.args.place in
    let bytes = c.counted_bytes-std.ensures.bytes in
    let len = c.counted_bytes-std.ensures.len in
    let same = ap length bytes in
    let full = eqb-false (length c.counted_bytes-std.result.now) 0 (sym c.if-is_empty.ensures) in
    let some : 0 < u16_at part c.args.place = elim (cases_lt 0 (u16_at part c.args.place)) [
      | inl h ↦ h
      | inr h ↦
          absurd (full (omega arith))
    ] in
    let fault = subst (λ s. HasUpxFault s c.args.base c.in-Some.offset) bytes c.in-Some.ensures.first.broken in
    let within = list_fault_within std c.args.base c.in-Some.offset (c.requires.slot.style some) fault in
    let inside = c.requires.slot.within in
    let room = c.requires.room in
    omega arith

pub returns-in-None-clause-first : goal.returns-in-None-clause-first
returns-in-None-clause-first c = λ p w.
    c.in-None.ensures.first w.offset (subst (λ s. HasUpxFault s c.args.base w.offset)
    (sym c.counted_bytes-std.ensures.bytes) w.broken)

pub returns-in-Some-clause-first : goal.returns-in-Some-clause-first
returns-in-Some-clause-first c =
    least_from (HasUpxFault (counted_bytes c.args.part.now c.args.place) c.args.base) (c.args.at + (c.args.place +
    2)) c.in-Some.offset
    (rw c.counted_bytes-std.ensures.bytes at c.in-Some.ensures.first)
