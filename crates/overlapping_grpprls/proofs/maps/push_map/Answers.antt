use Rattle.std.proofs.lemmas.List.Elements.{All-push}
use Rattle.overlapping_grpprls.specs.Keeping.{IsWalkedMap}
use Rattle.overlapping_grpprls.proofs.maps.push_map.Goals as goal

pub map_from-requires : goal.map_from-requires
map_from-requires c = (c.requires.kept.at, c.requires.kept.entries)

pub returns : goal.returns
returns c =
    rw c.in_ok-push.ensures.items (All-push (IsWalkedMap c.args.lists.now.stream.now c.args.lists.now.groups)
    c.args.made.now.items _ c.requires.made (c.requires.kept.made_by c.in_ok-map.map c.in_ok-map.ensures.acted
    c.in_ok-map.ensures.formed))
