-- What one read leaves in the counts of a shelf that keeps them exactly.
use Rattle.std.specs.Prelude.{ℕ, Result, Ok, Err}
use Rattle.doc_outer.specs.Counts.{raised}
use Rattle.doc_outer.specs.declared.shelf.ShelfFault.{ShelfFault}
use Rattle.doc_outer.specs.declared.shelf.ShelfFault.TheVariants.{Missing, Failed, Memory}

-- the count of failed calls: one more where the read failed
abbrev pub faults_after : Result ℕ ShelfFault → ℕ → ℕ
faults_after (Ok count) faults = faults
faults_after (Err Missing) faults = faults
faults_after (Err Failed) faults = raised faults
faults_after (Err Memory) faults = faults

-- the count of missing names: one more where the name was missing
abbrev pub missed_after : Result ℕ ShelfFault → ℕ → ℕ
missed_after (Ok count) missed = missed
missed_after (Err Missing) missed = raised missed
missed_after (Err Failed) missed = missed
missed_after (Err Memory) missed = missed
