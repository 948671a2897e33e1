use Rattle.std.proofs.Common.{◌≡◌, ◌<◌, ℕ, slice_get, Some}
use Rattle.cfb_streams.specs.Contents.{Stream}
use Rattle.file_mends.specs.declared.part_places.PartPlace.{PartPlace}
use Rattle.file_mends.specs.Places.{IsPartPlaceIn}
use Rattle.file_mends.proofs.part_places.place_among.Given as goal

-- none of the streams so far
abbrev pub invariant-loop-i : goal.invariant-loop-i
invariant-loop-i l =
    (k : ℕ) (stream : Stream) (place : PartPlace) → k < l.i → slice_get l.container.streams k ≡ Some stream →
    ¬ IsPartPlaceIn stream l.file_len l.rule l.offset place
