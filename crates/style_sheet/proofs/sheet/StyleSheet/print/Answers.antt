use Rattle.std.proofs.Common.{◌≡◌, ℕ, ◌+◌, ◌<◌, [], ◌∷◌, ◌++◌, length, take, sym, ap, ◌∙◌, subst, arith}
use Rattle.std.specs.List.{flat_map}
use Rattle.std.proofs.lemmas.List.{flat_map_more, take_more, take_all}
use Rattle.style_sheet.specs.Sheet.{Sheet, style_at}
use Rattle.style_sheet.specs.Counted.{written_counted}
use Rattle.style_sheet.specs.Written.{written_slot, written_slots, written_front, IsValidStsh}
use Rattle.style_sheet.proofs.SlotLemmas.{length-written_slots, written_slots_at}
use Rattle.style_sheet.proofs.SheetBackLemmas.{sheet_back}
use Rattle.style_sheet.proofs.sheet.StyleSheet.print.Goals as goal

-- one slot more
slot_more : (sheet : Sheet) (i : ℕ) → i < length sheet.styles → take (i + 1) (written_slots 0 sheet.styles) ≡ take i
    (written_slots 0 sheet.styles) ++ written_slot i (style_at sheet i) ∷ []
slot_more sheet i h =
    let stds = written_slots 0 sheet.styles in
    let len = length-written_slots 0 sheet.styles in
    let place : 0 + i ≡ i = omega arith in
    take_more stds i [] (omega arith)
    ∙ ap (λ x. take i stds ++ x ∷ []) (written_slots_at 0 sheet.styles i [] h ∙ ap (λ n. written_slot n
    (style_at sheet i)) place)

pub loop-istd-preserved : goal.loop-istd-preserved
loop-istd-preserved c =
    let sheet = c.args.self.now in
    let i = c.loop-istd.istd in
    let std = written_slot i (style_at sheet i) in
    let count = c.slots-istd-end.ensures.count in
    c.in_ok-push_slot.ensures
    ∙ (ap (λ t. t ++ written_counted std) c.loop-istd.invariant
    ∙ (flat_map_more written_counted (written_front sheet) (take i (written_slots 0 sheet.styles)) std
    ∙ ap (λ t. written_front sheet ++ flat_map written_counted t) (sym (slot_more sheet i (omega arith)))))

pub returns-clause-bytes : goal.returns-clause-bytes
returns-clause-bytes c =
    let sheet = c.args.self.now in
    let len = length-written_slots 0 sheet.styles in
    let count = c.slots-istd-end.ensures.count in
    c.loop-istd.invariant ∙ ap (λ t. written_front sheet ++ flat_map written_counted t) (take_all c.loop-istd.istd
    (written_slots 0 sheet.styles) (omega arith))

pub returns-clause-back : goal.returns-clause-back
returns-clause-back c =
    let sheet = c.args.self.now in
    let len = length-written_slots 0 sheet.styles in
    let count = c.slots-istd-end.ensures.count in
    let bytes = c.loop-istd.invariant ∙ ap (λ t. written_front sheet ++ flat_map written_counted t)
    (take_all c.loop-istd.istd (written_slots 0 sheet.styles) (omega arith)) in
    subst (IsValidStsh sheet) (sym bytes) (sheet_back sheet c.slots.ensures.formed c.requires)
