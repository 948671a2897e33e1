use Rattle.std.specs.Prelude.{slice_index}
use Rattle.std.proofs.Common.{◌≢◌, ◌+◌, ◌<◌, ℕ}
use Rattle.text_codes.specs.Paragraph.{cell_mark}
use Rattle.huge_papx.proofs.offsets.bare_len.Given as goal

-- none of those so far ends a cell
abbrev pub invariant-loop-k : goal.invariant-loop-k
invariant-loop-k l = (j : ℕ) → j < l.k → slice_index l.units (l.from + j) ≢ cell_mark
