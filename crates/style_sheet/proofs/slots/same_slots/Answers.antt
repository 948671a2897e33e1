use Rattle.std.proofs.Common.{◌<◌, ◌++◌, [], ◌∷◌, None, length, get_or, refl, sym, ap, ◌∙◌, arith}
use Rattle.std.proofs.lemmas.List.{map_more, get_or-map, get_or_read}
use Rattle.style_sheet.specs.Slots.{slot_of}
use Rattle.style_sheet.proofs.slots.same_slots.Goals as goal

pub returns-then-not-same_slot : goal.returns-then-not-same_slot
returns-then-not-same_slot c = (
  λ t. absurd (cc),
  λ e.
      let i = c.loop-i.i in
      let d = c.index-ours-i.result in
      let below : i < length c.args.ours.now = omega arith in
      let below_too : i < length c.args.theirs.now = omega arith in
      let ours = get_or-map slot_of c.args.ours.now i d None below in
      let theirs = get_or-map slot_of c.args.theirs.now i d None below_too in
      let same = sym ours ∙ (ap (λ s. get_or s i None) e ∙ theirs) in
      absurd (cc (c.if-not-same_slot.ensures.1 (ap slot_of (get_or_read _ i _ below c.index-ours-i.is d) ∙
      (same ∙ ap slot_of (sym (get_or_read _ i _ below_too c.index-theirs-i.is d)))))),
)

pub loop-i-preserved : goal.loop-i-preserved
loop-i-preserved c =
    let i = c.loop-i.i in
    let d = c.index-ours-i.result in
    let below : i < length c.args.ours.now = omega arith in
    let below_too : i < length c.args.theirs.now = omega arith in
    let same = c.if-not-same_slot.ensures.0 refl in
    let here = ap slot_of (sym (get_or_read _ i _ below c.index-ours-i.is d)) ∙ (same ∙ ap slot_of (get_or_read _ i _
    below_too c.index-theirs-i.is d)) in
    map_more slot_of c.args.ours.now i d below
    ∙ ((λ k. c.loop-i.invariant k ++ here k ∷ [])
    ∙ sym (map_more slot_of c.args.theirs.now i d below_too))
