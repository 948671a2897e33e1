use Rattle.std.proofs.Common.{◌≡◌, ◌+◌, sym, ap, ◌∙◌, subst, arith, add-one}
use borrow.Author.Count.{below_more}
use Rattle.doc_bits.specs.Rules.{LeastOrNone, Among}
use Rattle.doc_bits.proofs.Public.{least_step, lesser_none}
use Rattle.style_sheet.specs.Counted.{even_up, counted_end}
use Rattle.style_sheet.specs.StyleDefinition.{HasAcceptedLists}
use Rattle.style_sheet.specs.Stsh.{slot_place, cstd, std_base, std_of, HasStyleFault}
use Rattle.style_sheet.proofs.reading.wrong_list.Goals as goal

pub loop-slot-preserved : goal.loop-slot-preserved
loop-slot-preserved c =
    let part = c.args.part.now in
    let n = c.loop-slot._slot in
    let inv = c.loop-slot.invariant in
    let base = c.get16-base.ensures in
    let next = c.next_place-place.ensures.next ∙ ap (λ p. even_up (counted_end part p)) inv.place in
    let here = rw (base, inv.place) at c.slot_fault.ensures.first in
    let lists = rw (base, inv.place) at c.slot_fault.ensures.accepted in
    record {
      place = subst (λ i. c.next_place-place.result ≡ slot_place part i) (sym (add-one n)) next;
      least = subst (LeastOrNone (Among (n + 1) (HasStyleFault part c.args.at))) (sym c.lesser-least.ensures)
          (least_step (HasStyleFault part c.args.at) n c.loop-slot.least c.slot_fault.result inv.least here);
      accepted = λ none.
          let both = lesser_none c.loop-slot.least c.slot_fault.result (sym c.lesser-least.ensures ∙ none) in
          below_more (λ k. HasAcceptedLists (std_of part k) (std_base part)) n (inv.accepted both.0) (lists both.1);
    }

pub returns-clause-first : goal.returns-clause-first
returns-clause-first c =
    let end = c.get16-slot-end.ensures in
    let all : c.loop-slot._slot ≡ cstd c.args.part.now = omega arith in
    subst (λ n. LeastOrNone (Among n (HasStyleFault c.args.part.now c.args.at)) c.loop-slot.least) all
    c.loop-slot.invariant.least
