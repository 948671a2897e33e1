-- What contracts see of the adapter over real files: its counts, and nothing of what a file holds.
use Rattle.std.specs.Prelude.{ℕ}

pub record HostCounts : Type 0 where
  -- how often a call failed
  pub faults : ℕ
  -- how often a put failed
  pub put_faults : ℕ
  -- how often a name was not there
  pub missed : ℕ

-- the counts of a new adapter
abbrev pub no_counts : HostCounts
no_counts = record { faults = 0; put_faults = 0; missed = 0 }
