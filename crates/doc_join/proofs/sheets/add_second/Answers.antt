use Rattle.std.proofs.Common.{◌<◌, ◌∙◌, ◌++◌, ◌∷◌, [], Option, sym, ap, subst, arith, length, length-append, option_map}
use Rattle.style_sheet.specs.declared.styles.Style.{Style}
use Rattle.style_sheet.specs.Sheet.{Sheet, style_at}
use Rattle.style_sheet.specs.Formed.{IsFormedSlot}
use Rattle.effective_props.proofs.Public.{match_now}
use Rattle.doc_join.specs.declared.renumbering.Renumbering.{Renumbering}
use Rattle.doc_join.specs.Styles.{slots_from_second, slot_from_second}
use Rattle.doc_join.proofs.SheetLemmas.{given_formed, second_formed, second_more, length-second}
use Rattle.doc_join.proofs.sheets.add_second.Goals as goal

pub add-requires-clause-room : goal.add-requires-clause-room
add-requires-clause-room c =
    let long = ap (λ (s : Sheet). length s.styles) c.loop-istd.invariant.sheet in
    let both = length-append c.args.sheet.now.styles
    (slots_from_second c.args.maps.now.numbers c.args.second.now c.loop-istd.istd) in
    let back = length-second c.args.maps.now.numbers c.args.second.now c.loop-istd.istd in
    omega (arith, long, both, back, c.loop-istd-test.true, c.requires.fits, c.slots-slots.ensures.count)

pub add-requires-clause-formed : goal.add-requires-clause-formed
add-requires-clause-formed c =
    let slots = ap (λ (n : Renumbering). n.slots) (c.loop-istd.invariant.numbers ∙ c.requires.numbers) in
    let within : c.loop-istd.istd < c.loop-istd.maps.numbers.slots =
    omega (arith, slots, c.loop-istd-test.true, c.slots-slots.ensures.count) in
    subst IsFormedSlot (sym c.in_ok-slot_of_second.ensures.made)
    (second_formed c.loop-istd.maps.numbers c.loop-istd.istd _
    (given_formed (λ style. style.now) c.get.result c.get.ensures.formed) within c.loop-istd.maps.few)

pub loop-istd-preserved : goal.loop-istd-preserved
loop-istd-preserved c =
    let so_far = c.loop-istd.invariant.sheet in
    let numbers = c.loop-istd.invariant.numbers in
    let istd = c.loop-istd.istd in
    let second = c.args.second.now in
    let slot = option_map (λ style. style.now) c.get.result in
    let front = c.args.sheet.now.styles in
    let made =
    c.in_ok-slot_of_second.ensures.made ∙ ap (λ (n : Renumbering). slot_from_second n istd slot) numbers in
    let head = ap (λ (s : Sheet). s.head) so_far in
    let styles =
    ap (λ (s : Sheet). s.styles ++ c.in_ok-slot_of_second.field-0 ∷ []) so_far
    ∙ (ap (λ (x : Option Style). (front ++ slots_from_second c.args.maps.now.numbers second istd) ++ x ∷ []) made
    ∙ second_more c.args.maps.now.numbers second istd slot front
    (match_now (λ style. style.now) c.get.result (style_at second istd) c.get.ensures.style)) in
    record {
      sheet = c.in_ok-add.ensures.ok ∙ (λ i. record { head = head i; styles = styles i });
      numbers = c.in_ok-slot_of_second.ensures.numbers ∙ numbers;
    }
