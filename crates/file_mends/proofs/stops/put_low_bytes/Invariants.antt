use Rattle.std.proofs.Common.{◌≡◌, drop}
use Rattle.file_mends.specs.Stops.{with_low_bytes}
use Rattle.file_mends.proofs.stops.put_low_bytes.Given as goal

-- the places that are left make of the file what is to be made
abbrev pub invariant-loop-k : goal.invariant-loop-k
invariant-loop-k l = with_low_bytes l.sectors (drop l.k l.places) l.file ≡ with_low_bytes l.sectors l.places l.fn.file
