use Rattle.std.proofs.Common.{◌≡◌, map, take}
use Rattle.summary_set.proofs.form.ascending_offsets.Given as goal

-- the offsets so far
abbrev pub invariant-loop-pair : goal.invariant-loop-pair
invariant-loop-pair l = l.offsets.items ≡ map (λ pair. pair.offset) (take l.pair-index l.pairs)
