use Rattle.std.proofs.Common.{ℕ, ◌-◌, ◌<◌, ◌≤◌}
use Rattle.std.specs.Prelude.{slice_index}
use Rattle.doc_view.specs.Blocks.{IsItself}
use Rattle.doc_view.proofs.glyph.parts_end.Given as goal

-- the units so far are visible as themselves
abbrev pub invariant-loop-end : goal.invariant-loop-end
invariant-loop-end l = record {
  ahead : l.from ≤ l.end;
  within : l.end ≤ l.until;
  units : (k : ℕ) → l.from ≤ k → k < l.end → IsItself (slice_index l.units k);
}

abbrev pub decreases-loop-end : goal.decreases-loop-end
decreases-loop-end l = l.until - l.end
