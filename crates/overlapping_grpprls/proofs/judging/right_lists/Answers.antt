use Rattle.std.proofs.lemmas.List.Elements.{All-nil}
use Rattle.overlapping_grpprls.specs.Walks.{IsAcceptedRange}
use Rattle.overlapping_grpprls.proofs.judging.right_lists.Goals as goal

pub loop-first-init : goal.loop-first-init
loop-first-init c = rw c.new-right.ensures.items (All-nil (IsAcceptedRange c.args.stream.now c.args.groups))
