use Rattle.std.proofs.Common.{ℕ, ◌<◌, ◌≤◌}
use Rattle.std.specs.Prelude.{slice_index}
use Rattle.doc_view.specs.Blocks.{IsItself}
use Rattle.doc_view.proofs.glyph.itself_end.Given as goal

-- the units so far are visible as themselves
abbrev pub invariant-loop-k : goal.invariant-loop-k
invariant-loop-k l = (i : ℕ) → l.from ≤ i → i < l.k → IsItself (slice_index l.units i)
