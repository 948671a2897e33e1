use Rattle.std.proofs.Common.{refl}
use Rattle.std.proofs.lemmas.List.Elements.{All-push}
use Rattle.overlapping_grpprls.specs.Walks.{IsAcceptedRange}
use Rattle.overlapping_grpprls.specs.declared.ranges.ListRange.{ListRange}
use Rattle.overlapping_grpprls.proofs.WalkLemmas.{right_at}
use Rattle.overlapping_grpprls.proofs.judging.check.Goals as goal

pub returns : goal.returns
returns c =
    let stream = c.args.lists.now.stream.now in
    let groups = c.args.lists.now.groups in
    let range : ListRange = record { from = c.args.end.from; to = c.args.end.to } in
    rw c.in_ok-push.ensures.items (All-push (IsAcceptedRange stream groups) c.args.right.now.items range
    c.requires.right
    (right_at stream groups range c.args.at c.args.places.now c.requires.walk (c.if-not-passes_list.ensures refl)))
