use Rattle.std.proofs.Common.{slice_index}
use Rattle.doc_bits.specs.Rules.{Among, LeastOrNone}
use Rattle.cfb_directory.specs.Reach.{IsWrongStorage}
use Rattle.cfb_directory.proofs.links.wrong_storages.Given as goal

abbrev pub invariant-loop-entry : goal.invariant-loop-entry
invariant-loop-entry l = LeastOrNone
    (Among l.entry-index (λ i. IsWrongStorage l.file l.directory (slice_index l.order i))) l.least
