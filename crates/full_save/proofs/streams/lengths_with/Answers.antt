use Rattle.std.proofs.Common.{◌++◌, ℕ, List, [], ◌∷◌, ap, sym, ◌∙◌}
use Rattle.std.specs.Prelude.{slice_range}
use Rattle.cfb_layout.specs.Layout.{lengths_of}
use Rattle.full_save.proofs.StreamLemmas.{places_ordered}
use Rattle.full_save.proofs.PlaceLemmas.{lengths_in_parts}
use Rattle.full_save.proofs.streams.lengths_with.Goals as goal

pub add_lengths-requires-2-clause-ordered : goal.add_lengths-requires-2-clause-ordered
add_lengths-requires-2-clause-ordered c =
    places_ordered c.args.carried.now c.place_for-first.result c.place_for-second.result c.place_for-first.ensures
    c.place_for-second.ensures

pub returns : goal.returns
returns c = λ table wd is_table is_wd.
    let others = c.args.carried.now in
    let first = c.place_for-first.result in
    let second = c.place_for-second.result in
    let len = c.count.ensures.len in
    let one = c.in_ok-add_lengths.ensures ∙ ap (λ (xs : List ℕ). xs ++ lengths_of (slice_range others 0 first))
    c.new-lengths.ensures.items in
    let two = c.in_ok-push.ensures.items ∙ ap (λ (xs : List ℕ). xs ++ c.args.table ∷ []) one in
    let three = c.in_ok-add_lengths-2.ensures ∙ ap (λ (xs : List ℕ). xs ++ lengths_of (slice_range others first
    second)) two in
    let four = c.in_ok-push-2.ensures.items ∙ ap (λ (xs : List ℕ). xs ++ c.args.wd ∷ []) three in
    c.in_ok-add_lengths-3.ensures
    ∙ (ap (λ (xs : List ℕ). xs ++ lengths_of (slice_range others second c.count.result)) four
    ∙ ((λ i. (((lengths_of (slice_range others 0 first) ++ sym is_table i ∷ []) ++ lengths_of (slice_range others
    first second)) ++ sym is_wd i ∷ []) ++ lengths_of (slice_range others second (len i)))
    ∙ lengths_in_parts table wd others first second c.place_for-first.ensures c.place_for-second.ensures))
