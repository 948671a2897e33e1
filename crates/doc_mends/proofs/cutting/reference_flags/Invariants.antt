use Rattle.std.proofs.Common.{◌≡◌, map, take}
use Rattle.std.specs.Prelude.{is_some}
use Rattle.doc_mends.proofs.cutting.reference_flags.Given as goal

-- the flags so far
abbrev pub invariant-loop-k : goal.invariant-loop-k
invariant-loop-k l = l.flags.items ≡ map is_some (take l.k l.found.items)
