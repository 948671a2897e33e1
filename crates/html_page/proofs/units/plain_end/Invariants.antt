use Rattle.std.proofs.Common.{◌≡◌, ℕ, ◌<◌, ◌≤◌, false}
use Rattle.std.specs.Prelude.{slice_index}
use Rattle.html_page.specs.Pages.{is_referred}
use Rattle.html_page.proofs.units.plain_end.Given as goal

-- the units so far represent themselves
abbrev pub invariant-loop-k : goal.invariant-loop-k
invariant-loop-k l = (i : ℕ) → l.from ≤ i → i < l.k → is_referred (slice_index l.units i) ≡ false
