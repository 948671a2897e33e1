use Rattle.std.proofs.Common.{◌≡◌, ◌∙◌, ◌++◌, ap, sym, Some, None, take, drop, length, refl}
use Rattle.std.proofs.Common.{slice_index_or, arith, length-take}
use Rattle.std.proofs.lemmas.List.{take_at}
use Rattle.std.proofs.lemmas.Option.{slice_get-get_or}
use Rattle.list_numbers.specs.Counters.{HaveCounted}
use Rattle.list_numbers.specs.MarkValues.{no_values}
use Rattle.list_numbers.proofs.LabelLemmas.{none_made, one_made}
use Rattle.list_numbers.proofs.NumberedLemmas.{few_counted}
use Rattle.list_numbers.proofs.labels.values_at.Goals as goal

pub loop-i-init : goal.loop-i-init
loop-i-init c =
    rw c.new-made.ensures (none_made c.args.fonts c.args.lists.now c.args.places.now c.args.values.now c.in_ok-counts.counts.items
    (rw (← c.len.ensures) c.in_ok-counts.ensures))

pub next_label-requires-clause-place : goal.next_label-requires-clause-place
next_label-requires-clause-place c =
    λ x e. c.requires.fit c.loop-i.i x (slice_get-get_or c.args.places.now c.loop-i.i None c.loop-i-test.true ∙ ap Some
    e)

pub next_label-requires-clause-few : goal.next_label-requires-clause-few
next_label-requires-clause-few c =
    let few = c.requires.few in
    few_counted (take c.loop-i.i c.args.places.now) (length c.args.lists.now) c.deref_mut.result.now
    (rw c.deref_mut.ensures.value c.loop-i.invariant.counted) (omega (arith, length-take c.loop-i.i c.args.places.now))

pub loop-i-preserved : goal.loop-i-preserved
loop-i-preserved c =
    let places = c.args.places.now in
    let new = c.next_label.new.counts in
    let old : HaveCounted (take c.loop-i.i places) (length c.args.lists.now) c.deref_mut.result.now =
    rw c.deref_mut.ensures.value c.loop-i.invariant.counted in
    let counted = c.next_label.ensures.counted (take c.loop-i.i places) old in
    let whole : take c.loop-i.counts.len (new ++ drop (length new) c.loop-i.counts.items) ≡ new =
    take_at new (drop (length new) c.loop-i.counts.items) c.loop-i.counts.len (counted.size ∙ (sym old.size ∙
    c.deref_mut.ensures.len)) in
    let own = slice_index_or c.args.values.now c.loop-i.i no_values in
    rw (c.in_ok-add.ensures, c.new.ensures, whole) (one_made c.args.fonts c.args.lists.now places c.args.values.now c.loop-i.made
    c.loop-i.counts.items new c.loop-i.i (slice_index_or places c.loop-i.i None) c.in_ok-label.label own
    c.loop-i.invariant (slice_get-get_or places c.loop-i.i None c.loop-i-test.true) c.loop-i-test.true counted
    (c.in_ok-label.ensures.label (take c.loop-i.i places) old) refl)
