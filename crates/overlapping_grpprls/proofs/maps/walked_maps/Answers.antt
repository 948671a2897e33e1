use Rattle.std.proofs.lemmas.List.Elements.{All-nil}
use Rattle.overlapping_grpprls.specs.Keeping.{IsWalkedMap}
use Rattle.overlapping_grpprls.proofs.maps.walked_maps.Goals as goal

pub loop-first-init : goal.loop-first-init
loop-first-init c = rw c.new-made.ensures.items (All-nil (IsWalkedMap c.args.stream.now c.args.groups))
