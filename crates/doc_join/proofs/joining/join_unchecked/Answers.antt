use Rattle.std.proofs.Common.{◌∙◌, ap, sym, subst, arith}
use Rattle.plain_doc.specs.Sound.{IsSound}
use Rattle.doc_join.specs.declared.renumbering.Renumbering.{Renumbering}
use Rattle.doc_join.proofs.SoundLemmas.{main_styles, note_styles, head_styles, are_few, bookmarks_fit}
use Rattle.doc_join.proofs.joining.join_unchecked.Goals as goal

pub join_main-requires-clause-some : goal.join_main-requires-clause-some
join_main-requires-clause-some c = (are_few _ (subst IsSound (sym c.a.view_is) c.requires.first)).some

pub join_main-requires-clause-of_first : goal.join_main-requires-clause-of_first
join_main-requires-clause-of_first c =
    main_styles _ c.new-first_maps.result.numbers (subst IsSound (sym c.a.view_is) c.requires.first)
    (ap (λ (n : Renumbering). n.slots) c.new-first_maps.ensures ∙ c.slots-before.ensures.count)

pub join_main-requires-clause-of_second : goal.join_main-requires-clause-of_second
join_main-requires-clause-of_second c =
    main_styles _ c.new-second_maps.result.numbers (subst IsSound (sym c.b.view_is) c.requires.second)
    (ap (λ (n : Renumbering). n.slots) c.new-second_maps.ensures ∙ c.slots.ensures.count)

pub join_texts-requires-clause-few : goal.join_texts-requires-clause-few
join_texts-requires-clause-few c =
    let one = (are_few _ (subst IsSound (sym c.a.view_is) c.requires.first)).notes in
    let other = (are_few _ (subst IsSound (sym c.b.view_is) c.requires.second)).notes in
    omega (arith, one, other)

pub join_texts-requires-clause-of_first : goal.join_texts-requires-clause-of_first
join_texts-requires-clause-of_first c =
    note_styles _ c.join_main.new.first_maps.numbers (subst IsSound (sym c.a.view_is) c.requires.first)
    (ap (λ (n : Renumbering). n.slots) (c.in_ok-join_main.ensures.first_maps ∙ c.new-first_maps.ensures)
    ∙ c.slots-before.ensures.count)

pub join_texts-requires-clause-of_second : goal.join_texts-requires-clause-of_second
join_texts-requires-clause-of_second c =
    note_styles _ c.join_main.new.second_maps.numbers (subst IsSound (sym c.b.view_is) c.requires.second)
    (ap (λ (n : Renumbering). n.slots) (c.in_ok-join_main.ensures.second_maps ∙ c.new-second_maps.ensures)
    ∙ c.slots.ensures.count)

pub join_texts-requires-2-clause-few : goal.join_texts-requires-2-clause-few
join_texts-requires-2-clause-few c =
    let one = (are_few _ (subst IsSound (sym c.a.view_is) c.requires.first)).heads in
    let other = (are_few _ (subst IsSound (sym c.b.view_is) c.requires.second)).heads in
    omega (arith, one, other)

pub join_texts-requires-2-clause-of_first : goal.join_texts-requires-2-clause-of_first
join_texts-requires-2-clause-of_first c =
    head_styles _ c.join_texts.new.first_maps.numbers (subst IsSound (sym c.a.view_is) c.requires.first)
    (ap (λ (n : Renumbering). n.slots)
    (c.in_ok-join_texts.ensures.first_maps ∙ (c.in_ok-join_main.ensures.first_maps ∙ c.new-first_maps.ensures))
    ∙ c.slots-before.ensures.count)

pub join_texts-requires-2-clause-of_second : goal.join_texts-requires-2-clause-of_second
join_texts-requires-2-clause-of_second c =
    head_styles _ c.join_texts.new.second_maps.numbers (subst IsSound (sym c.b.view_is) c.requires.second)
    (ap (λ (n : Renumbering). n.slots)
    (c.in_ok-join_texts.ensures.second_maps ∙ (c.in_ok-join_main.ensures.second_maps ∙ c.new-second_maps.ensures))
    ∙ c.slots.ensures.count)

pub join_bookmarks-requires-clause-few : goal.join_bookmarks-requires-clause-few
join_bookmarks-requires-clause-few c =
    let one = (are_few _ (subst IsSound (sym c.a.view_is) c.requires.first)).bookmarks in
    let other = (are_few _ (subst IsSound (sym c.b.view_is) c.requires.second)).bookmarks in
    omega (arith, one, other)

pub join_texts-requires-2-clause-from : goal.join_texts-requires-2-clause-from
join_texts-requires-2-clause-from c =
    let few = (are_few _ (subst IsSound (sym c.b.view_is) c.requires.second)).separators in
    omega (arith, few)

pub join_bookmarks-requires-clause-starts : goal.join_bookmarks-requires-clause-starts
join_bookmarks-requires-clause-starts c =
    let first = subst IsSound (sym c.a.view_is) c.requires.first in
    let second = subst IsSound (sym c.b.view_is) c.requires.second in
    (bookmarks_fit _ _ c.len.result first second c.len.ensures.len).starts

pub join_bookmarks-requires-clause-ends : goal.join_bookmarks-requires-clause-ends
join_bookmarks-requires-clause-ends c =
    let first = subst IsSound (sym c.a.view_is) c.requires.first in
    let second = subst IsSound (sym c.b.view_is) c.requires.second in
    (bookmarks_fit _ _ c.len.result first second c.len.ensures.len).ends
