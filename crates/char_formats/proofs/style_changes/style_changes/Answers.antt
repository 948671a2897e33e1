use Rattle.std.proofs.Common.{◌≡◌, ◌+◌, length, ap, sym, ◌∙◌, subst, arith, length-append, [], ◌∷◌, ◌++◌}
use Rattle.char_formats.proofs.ChainLemmas.{AreSlotChanges, slots-none, slots-more, slots-whole, known_none}
use Rattle.char_formats.proofs.style_changes.style_changes.Goals as goal

pub loop-slot-init : goal.loop-slot-init
loop-slot-init c = record {
  known = known_none c.args.sheet.now c.slots-slots.result c.in_ok-known.known.items c.in_ok-known.ensures;
  count = ap length c.new-changes.ensures.items;
  right = subst (AreSlotChanges c.args.sheet.now) (sym c.new-changes.ensures.items) (slots-none c.args.sheet.now);
}

pub loop-slot-preserved : goal.loop-slot-preserved
loop-slot-preserved c =
    let sheet = c.args.sheet.now in
    let old = c.loop-slot.changes.items in
    let change = c.in_ok-change.change in
    let items : c.push.new.self.items ≡ old ++ change ∷ [] = c.in_ok-push.ensures.items in
    let long : length (old ++ change ∷ []) ≡ length old + 1 = length-append old (change ∷ []) in
    record {
      known = c.in_ok-change.ensures.known;
      count = ap length items ∙ (long ∙ ap (λ n. n + 1) c.loop-slot.invariant.count);
      right =
          subst (AreSlotChanges sheet) (sym items) (slots-more sheet old c.loop-slot.slot change
          c.loop-slot.invariant.count c.loop-slot.invariant.right c.in_ok-change.ensures.change);
    }

pub returns : goal.returns
returns c =
    slots-whole c.args.sheet.now c.loop-slot.changes.items (omega (
      arith,
      c.loop-slot.invariant.count,
      c.slots-slots.ensures.count,
    )) c.loop-slot.invariant.right
