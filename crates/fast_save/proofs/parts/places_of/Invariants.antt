use Rattle.std.proofs.Common.{◌≡◌, take}
use Rattle.fast_save.specs.Started.{written_places}
use Rattle.fast_save.proofs.parts.places_of.Given as goal

-- the places of the sections so far
abbrev pub invariant-loop-k : goal.invariant-loop-k
invariant-loop-k l = l.places.items ≡ written_places (take l.k l.seds)
