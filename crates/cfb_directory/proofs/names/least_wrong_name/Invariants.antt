use Rattle.std.proofs.Common.{slice_index}
use Rattle.doc_bits.specs.Rules.{Among, LeastOrNone}
use Rattle.cfb_directory.specs.Reach.{IsWrongName}
use Rattle.cfb_directory.proofs.names.least_wrong_name.Given as goal

abbrev pub invariant-loop-entry : goal.invariant-loop-entry
invariant-loop-entry l = LeastOrNone (Among l.entry-index (λ i. IsWrongName l.file l.directory (slice_index l.order i)))
    l.least
