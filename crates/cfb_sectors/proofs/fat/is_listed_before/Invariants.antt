use Rattle.std.proofs.Common.{◌≢◌, ℕ, ◌<◌}
use Rattle.cfb_sectors.specs.Header.{fat_sector}
use Rattle.cfb_sectors.proofs.fat.is_listed_before.Given as goal

abbrev pub invariant-loop-j : goal.invariant-loop-j
invariant-loop-j l = (i : ℕ) → i < l.j → fat_sector l.file i ≢ l.number
