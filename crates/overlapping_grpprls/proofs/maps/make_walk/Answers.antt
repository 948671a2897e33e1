use Rattle.std.proofs.Common.{rules, ◌≡◌, [], ◌∷◌, refl, arith}
use Rattle.overlapping_grpprls.proofs.KeepingLemmas.{keeping_new, kept_of}
use Rattle.overlapping_grpprls.proofs.maps.make_walk.Goals as goal

pub loop-end-init : goal.loop-end-init
loop-end-init c =
    let one : c.in_ok-places.places.items ≡ c.args.start ∷ [] = search rules in
    record {
      keeping = rw (one, c.new-kept.ensures.items) (keeping_new c.args.lists.now.stream.now c.args.lists.now.groups
          c.args.start (omega arith));
      made = c.requires;
    }

pub push_map-requires-clause-kept : goal.push_map-requires-clause-kept
push_map-requires-clause-kept c =
    let comes = rw c.deref.ensures.value at (c.if-passes_list.ensures refl) in
    rw c.deref-then-passes_list.ensures.value (kept_of c.args.lists.now.stream.now c.args.lists.now.groups _
    c.in_ok-at.at
    c.advance_recording.new.places.items c.advance_recording.new.kept.items c.in_ok-at.ensures comes)
