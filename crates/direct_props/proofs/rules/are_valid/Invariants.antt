use Rattle.std.proofs.Common.{ℕ, ◌<◌, slice_index_or}
use Rattle.direct_props.specs.PageRules.{IsValidPlace}
use Rattle.direct_props.specs.Pages.{IsValidStretch}
use Rattle.direct_props.specs.GrpprlCache.{HaveNoFault}
use Rattle.direct_props.proofs.rules.are_valid.Given as goal

abbrev pub invariant-loop-place : goal.invariant-loop-place
invariant-loop-place l = record {
  known : HaveNoFault l.kind l.wd l.known;
  stretch : IsValidStretch l.kind l.wd l.bin l.stretch;
  done : (k : ℕ) → k < l.place-index → IsValidPlace l.kind l.wd l.bin (slice_index_or l.places k 0);
}
