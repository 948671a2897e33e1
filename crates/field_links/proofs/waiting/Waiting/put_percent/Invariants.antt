use Rattle.std.proofs.Common.{◌≡◌, ◌+◌, ◌*◌, ◌≤◌, length, drop}
use Rattle.std.specs.List.{flat_map}
use Rattle.field_links.specs.Urls.{percent_byte}
use Rattle.field_links.proofs.waiting.Waiting.put_percent.Given as goal

-- the bytes from the place on wait, and there is room for those before it
abbrev pub invariant-loop-left : goal.invariant-loop-left
invariant-loop-left l =
    (l.self ≡ flat_map percent_byte (drop l.left l.bytes)) × ((l.left ≤ length l.bytes)
    × (length l.self + 3 * l.left ≤ 12))

abbrev pub decreases-loop-left : goal.decreases-loop-left
decreases-loop-left l = l.left
