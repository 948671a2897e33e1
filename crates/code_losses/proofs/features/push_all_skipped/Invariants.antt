use Rattle.std.specs.Prelude.{slice_index}
use Rattle.std.proofs.Common.{◌≡◌, ◌++◌}
use Rattle.code_losses.specs.Losses.{skipped_of}
use Rattle.code_losses.proofs.NamedLemmas.{named_below}
use Rattle.code_losses.proofs.features.push_all_skipped.Given as goal

-- those of the first codes are named
abbrev pub invariant-loop-code : goal.invariant-loop-code
invariant-loop-code l =
    l.features.items
    ≡ l.fn.features.items ++ named_below (λ code. skipped_of l.kind code (slice_index l.tally.counts.items code)) l.code
