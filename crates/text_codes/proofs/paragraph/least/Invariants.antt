use Rattle.std.proofs.Common.{◌+◌, ◌<◌, ◌≤◌, ℕ}
use Rattle.std.specs.Prelude.{slice_index}
use Rattle.text_codes.proofs.paragraph.least.Given as goal

-- none of the units so far is less
abbrev pub invariant-loop-j : goal.invariant-loop-j
invariant-loop-j l = (i : ℕ) → i < l.j → l.low ≤ slice_index l.units (l.at + i)
