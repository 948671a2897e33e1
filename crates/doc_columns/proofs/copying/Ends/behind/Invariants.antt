use Rattle.std.proofs.Common.{◌-◌, length}
use Rattle.doc_columns.proofs.copying.Ends.behind.Given as goal

abbrev pub decreases-loop-self : goal.decreases-loop-self
decreases-loop-self l = length l.self.places.now - l.self.passed
