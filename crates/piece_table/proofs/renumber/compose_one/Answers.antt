use Rattle.std.proofs.Common.{◌≡◌, ◌∙◌, ◌<◌, [], ◌∷◌, length, slice_index_or, subst, arith}
use Rattle.std.proofs.lemmas.List.{get_or_default}
use Rattle.prop_map.specs.Modifiers.{no_modifier, IsComposed, StaysFormedModifier}
use Rattle.piece_table.proofs.RenumberLemmas.{composed_put, here_put, others_put}
use Rattle.piece_table.proofs.renumber.compose_one.Goals as goal

pub returns-clause-composed : goal.returns-clause-composed
returns-clause-composed c =
    let modifiers = c.args.modifiers.now.items in
    let numbers = c.args.numbers.now.items in
    let number = c.args.number in
    let by = c.args.by.now in
    let old = c.index-2.result.now in
    let made = c.in_ok-composed.composed in
    let short = c.requires.composed.short in
    let is : old ≡ slice_index_or modifiers number no_modifier = c.index-2.ensures ∙ get_or_default modifiers number
    old no_modifier (omega (arith, c.requires.within)) in
    let composed : IsComposed (slice_index_or modifiers number no_modifier) by made = subst (λ m. IsComposed m by
    made) is c.in_ok-composed.ensures.parts in
    let formed : StaysFormedModifier (slice_index_or modifiers number no_modifier) by made = subst
    (λ m. StaysFormedModifier m by made) is c.in_ok-composed.ensures.formed in
    let place : c.len-place.result ≡ length modifiers = omega (arith, c.len-place.ensures) in
    rw (c.in_ok-push.ensures.items, place) (composed_put by modifiers numbers number made c.requires.composed
    c.requires.within composed formed)

pub returns-clause-extends : goal.returns-clause-extends
returns-clause-extends c = record { more = c.in_ok-composed.composed ∷ []; joined = c.in_ok-push.ensures.items }

pub returns-clause-here : goal.returns-clause-here
returns-clause-here c =
    let some : 0 < c.len-place.result = omega (arith, c.len-place.ensures, c.requires.some) in
    here_put c.args.numbers.now.items c.args.number c.len-place.result c.requires.within some

pub returns-clause-others : goal.returns-clause-others
returns-clause-others c = λ other kept.
    let some : 0 < c.len-place.result = omega (arith, c.len-place.ensures, c.requires.some) in
    others_put c.args.numbers.now.items c.args.number c.len-place.result other c.requires.within some kept
