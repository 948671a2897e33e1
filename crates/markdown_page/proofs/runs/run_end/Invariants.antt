use Rattle.std.proofs.Common.{◌≡◌, ℕ, ◌<◌, true}
use Rattle.std.specs.Prelude.{slice_index}
use Rattle.markdown_page.specs.Runs.{goes_on}
use Rattle.markdown_page.proofs.runs.run_end.Given as goal

-- the units so far go on
abbrev pub invariant-loop-k : goal.invariant-loop-k
invariant-loop-k l = (i : ℕ) → l.from < i → i < l.k → goes_on l.in_emphasis l.space (slice_index l.units i) ≡ true
