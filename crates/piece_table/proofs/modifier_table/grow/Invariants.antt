use Rattle.std.proofs.Common.{◌≡◌, ℕ, ◌-◌, length, slice_index}
use Rattle.piece_table.proofs.modifier_table.grow.Given as goal

-- no number was changed
abbrev pub invariant-loop-numbers : goal.invariant-loop-numbers
invariant-loop-numbers l = (prm : ℕ) → slice_index l.numbers.items prm ≡ slice_index l.initial.numbers.items prm

abbrev pub decreases-loop-numbers : goal.decreases-loop-numbers
decreases-loop-numbers l = l.len - length l.numbers.items
