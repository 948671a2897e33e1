use Rattle.std.proofs.Common.{◌≡◌, ◌∙◌, ◌++◌, ap, sym, Some, None, take, drop, length}
use Rattle.std.proofs.Common.{slice_index_or, arith, length-take}
use Rattle.std.proofs.lemmas.List.{take_at}
use Rattle.std.proofs.lemmas.Option.{slice_get-get_or}
use Rattle.list_numbers.specs.Counters.{HaveCounted}
use Rattle.list_numbers.proofs.NumberedLemmas.{none_numbered, one_numbered, few_counted}
use Rattle.list_numbers.proofs.numbers_of_places.numbers_at.Goals as goal

pub loop-i-init : goal.loop-i-init
loop-i-init c =
    rw c.new-numbers.ensures (none_numbered c.args.lists.now c.args.places.now c.in_ok-counts.counts.items
    (rw (← c.len.ensures) c.in_ok-counts.ensures))

pub next_number-requires-clause-place : goal.next_number-requires-clause-place
next_number-requires-clause-place c =
    λ x e. c.requires.fit c.loop-i.i x (slice_get-get_or c.args.places.now c.loop-i.i None c.loop-i-test.true ∙ ap Some
    e)

pub next_number-requires-clause-few : goal.next_number-requires-clause-few
next_number-requires-clause-few c =
    let few = c.requires.few in
    few_counted (take c.loop-i.i c.args.places.now) (length c.args.lists.now) c.deref_mut.result.now
    (rw c.deref_mut.ensures.value c.loop-i.invariant.counted) (omega (arith, length-take c.loop-i.i c.args.places.now))

pub loop-i-preserved : goal.loop-i-preserved
loop-i-preserved c =
    let places = c.args.places.now in
    let new = c.next_number.new.counts in
    let old : HaveCounted (take c.loop-i.i places) (length c.args.lists.now) c.deref_mut.result.now =
    rw c.deref_mut.ensures.value c.loop-i.invariant.counted in
    let counted = c.next_number.ensures.counted (take c.loop-i.i places) old in
    let whole : take c.loop-i.counts.len (new ++ drop (length new) c.loop-i.counts.items) ≡ new =
    take_at new (drop (length new) c.loop-i.counts.items) c.loop-i.counts.len (counted.size ∙ (sym old.size ∙
    c.deref_mut.ensures.len)) in
    rw (c.in_ok-add.ensures.ok, whole) (one_numbered c.args.lists.now places c.loop-i.numbers c.loop-i.counts.items new
    c.loop-i.i (slice_index_or places c.loop-i.i None) c.in_ok-number.number c.loop-i.invariant
    (slice_get-get_or places c.loop-i.i None c.loop-i-test.true) c.loop-i-test.true counted
    (c.in_ok-number.ensures.number (take c.loop-i.i places) old))
