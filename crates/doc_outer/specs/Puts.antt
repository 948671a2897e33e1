-- What one put leaves in the counts of a shelf that keeps them exactly.
use Rattle.std.specs.Prelude.{ℕ, Result, Ok, Err, ⊤}
use Rattle.doc_outer.specs.Counts.{raised}
use Rattle.doc_outer.specs.declared.shelf.PutFault.{PutFault}
use Rattle.doc_outer.specs.declared.shelf.PutFault.TheVariants.{Failed, Memory}

-- the count of failed calls, and likewise that of failed puts: one more where the put failed
abbrev pub faults_putting : Result ⊤ PutFault → ℕ → ℕ
faults_putting (Ok done) faults = faults
faults_putting (Err Failed) faults = raised faults
faults_putting (Err Memory) faults = faults
