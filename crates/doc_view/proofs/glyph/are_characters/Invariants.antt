use Rattle.std.proofs.Common.{◌+◌, ◌<◌, ℕ, IsTrue}
use Rattle.std.specs.Prelude.{slice_index}
use Rattle.doc_view.specs.Blocks.{IsItself}
use Rattle.doc_view.proofs.glyph.are_characters.Given as goal

-- where it says so, the units so far are visible as themselves
abbrev pub invariant-loop-k : goal.invariant-loop-k
invariant-loop-k l = IsTrue l.all → (i : ℕ) → i < l.k → IsItself (slice_index l.units (l.at + i))
