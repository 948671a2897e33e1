use Rattle.std.proofs.Common.{◌≡◌, ℕ, ◌<◌}
use Rattle.cfb_directory.specs.Directory.{upper_case, entry_unit}
use Rattle.cfb_directory.proofs.order.comes_before.Given as goal

abbrev pub invariant-loop-i : goal.invariant-loop-i
invariant-loop-i l = (k : ℕ) → k < l.i → upper_case (entry_unit l.file l.at k) ≡ upper_case
    (entry_unit l.file l.other k)
