use Rattle.std.proofs.Common.{ap, arith, length, map, rules, ◌≡◌}
use Rattle.std.proofs.lemmas.List.{length-map}
use Rattle.serde_json.specs.Data.{Data}
use Rattle.serde_json.specs.View.{view}
use Rattle.std.proofs.Common.{◌<◌}
use Rattle.style_sheet.specs.Sheet.{Sheet}
use Rattle.json_doc.specs.Styles.{slot_json}
use Rattle.std.proofs.Common.{take, sym, subst, ◌∙◌, ◌+◌, ◌++◌, ◌∷◌, []}
use Rattle.std.proofs.lemmas.Result.{err_from_is_err_and}
use Rattle.style_sheet.specs.Formed.{IsFormedSlot}
use Rattle.json_doc.proofs.ValueLemmas.{more_values, all_values, wrong_at, front_length}
use Rattle.json_doc.proofs.ReadLemmas.{AreRead, same_items, read_more, read_length, list_read}
use Rattle.json_doc.proofs.style_reading.sheet_from.Goals as goal

pub returns-then-is_empty : goal.returns-then-is_empty
returns-then-is_empty c = λ shape slots formed e.
    let len = ap length (same_items (map view c.args.values.now) (map slot_json slots) e) in
    let some = formed.some in
    let none : length c.args.values.now ≡ 0 = search rules in
    absurd (omega (arith, some, len, length-map {B = Data} c.args.values.now, length-map {B = Data} slots, none))

pub returns-then-values-gt-MAX_SLOTS : goal.returns-then-values-gt-MAX_SLOTS
returns-then-values-gt-MAX_SLOTS c = λ shape slots formed e.
    let len = ap length (same_items (map view c.args.values.now) (map slot_json slots) e) in
    let few = formed.few in
    absurd (omega (
      arith,
      few,
      len,
      length-map {B = Data} c.args.values.now,
      length-map {B = Data} slots,
      c.if-values-gt-MAX_SLOTS.true,
    ))

pub returns-in_err-first : goal.returns-in_err-first
returns-in_err-first c =
    let p = err_from_is_err_and c.from_residual.result c.from_residual.ensures.1 in
    rw (p.1, p.2) (λ shape slots formed. wrong_at slot_json IsFormedSlot c.args.values.now 0 c.index-values-0.result
    (search rules) c.index-values-0.is c.in_err-first.field-0.0 shape c.in_err-first.ensures slots formed.each)

pub loop-i-init : goal.loop-i-init
loop-i-init c = record {
  head = ap (λ (s : Sheet). s.head) c.in_ok-sheet.ensures;
  slots = subst (λ styles. AreRead slot_json IsFormedSlot (map view (take 1 c.args.values.now)) styles)
      (ap (λ (s : Sheet). s.styles) (sym c.in_ok-sheet.ensures))
      (subst (λ ds. AreRead slot_json IsFormedSlot ds (c.in_ok-first.first ∷ []))
      (sym (more_values c.args.values.now 0 c.index-values-0.result (search rules) c.index-values-0.is))
      (c.in_ok-first.ensures, tt));
}

pub add-requires-clause-room : goal.add-requires-clause-room
add-requires-clause-room c =
    let values = c.args.values.now in
    let len = read_length slot_json IsFormedSlot (map view (take c.loop-i.i values)) c.loop-i.sheet.styles
    c.loop-i.invariant.slots in
    omega (arith, len, front_length values c.loop-i.i, c.loop-i-test.true, c.if-values-gt-MAX_SLOTS.false)

pub returns-in_err-slot : goal.returns-in_err-slot
returns-in_err-slot c =
    let p = err_from_is_err_and c.from_residual-in_err-slot.result c.from_residual-in_err-slot.ensures.1 in
    rw (p.1, p.2) (λ shape slots formed. wrong_at slot_json IsFormedSlot c.args.values.now c.loop-i.i
    c.index-values-i.result c.loop-i-test.true c.index-values-i.is c.in_err-slot.field-0.0 shape c.in_err-slot.ensures
    slots formed.each)

pub loop-i-preserved : goal.loop-i-preserved
loop-i-preserved c =
    let values = c.args.values.now in
    let i = c.loop-i.i in
    let more = read_more slot_json IsFormedSlot (map view (take i values)) c.loop-i.sheet.styles
    (view c.index-values-i.result) c.in_ok-slot.slot c.loop-i.invariant.slots c.in_ok-slot.ensures in
    record {
      head = ap (λ (s : Sheet). s.head) c.in_ok-add.ensures.ok ∙ c.loop-i.invariant.head;
      slots = subst (λ styles. AreRead slot_json IsFormedSlot (map view (take (i + 1) values)) styles)
          (ap (λ (s : Sheet). s.styles) (sym c.in_ok-add.ensures.ok))
          (subst (λ ds. AreRead slot_json IsFormedSlot ds (c.loop-i.sheet.styles ++ c.in_ok-slot.slot ∷ []))
          (sym (more_values values i c.index-values-i.result c.loop-i-test.true c.index-values-i.is)) more);
    }

pub returns : goal.returns
returns c =
    let values = c.args.values.now in
    let all = subst (λ ds. AreRead slot_json IsFormedSlot ds c.loop-i.sheet.styles) (all_values values c.loop-i.i
    c.loop-i-test.false) c.loop-i.invariant.slots in
    let len = read_length slot_json IsFormedSlot (map view values) c.loop-i.sheet.styles all in
    let read = list_read slot_json IsFormedSlot (map view values) c.loop-i.sheet.styles all in
    let some : 0 < length values = search rules in (
      c.loop-i.invariant.head,
      (
        record {
          some = omega (arith, len, length-map {B = Data} values, some);
          few = omega (arith, len, length-map {B = Data} values, c.if-values-gt-MAX_SLOTS.false);
          each = read.0;
        },
        read.1,
      ),
    )
