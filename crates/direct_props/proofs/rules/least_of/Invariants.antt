use Rattle.std.proofs.Common.{slice_index_or}
use Rattle.doc_bits.specs.Rules.{LeastOrNone, Among}
use Rattle.direct_props.specs.PageRules.{BreaksPageRule}
use Rattle.direct_props.proofs.rules.least_of.Given as goal

abbrev pub invariant-loop-place : goal.invariant-loop-place
invariant-loop-place l = LeastOrNone (Among l.place-index (λ k. BreaksPageRule l.rule l.kind l.wd l.bin
    (slice_index_or l.places k 0))) l.least
