use Rattle.std.proofs.Common.{rules, ◌≡◌, [], ◌∷◌, arith}
use Rattle.overlapping_grpprls.proofs.WalkLemmas.{walk_new}
use Rattle.overlapping_grpprls.proofs.judging.check_walk.Goals as goal

pub loop-end-init : goal.loop-end-init
loop-end-init c =
    let one : c.in_ok-places.places.items ≡ c.args.start ∷ [] = search rules in
    record {
      walk = rw one (walk_new c.args.lists.now.stream.now c.args.lists.now.groups c.args.start (omega arith));
      right = c.requires;
    }
