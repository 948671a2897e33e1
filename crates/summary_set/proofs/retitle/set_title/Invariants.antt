use Rattle.std.proofs.Common.{◌≡◌, map, take}
use Rattle.summary_set.specs.Values.{property_of}
use Rattle.summary_set.specs.Written.{in_place}
use Rattle.summary_set.proofs.retitle.set_title.Given as goal

-- the properties so far
abbrev pub invariant-loop-i : goal.invariant-loop-i
invariant-loop-i l = l.values.items ≡ map (λ pair. in_place l.title (property_of l.stream pair)) (take l.i
    l.set.pairs.items)
