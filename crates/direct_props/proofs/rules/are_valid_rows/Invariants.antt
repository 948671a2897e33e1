use Rattle.std.proofs.Common.{ℕ, ◌-◌, ◌<◌, length, slice_index_or}
use Rattle.direct_props.specs.PageRules.{IsValidPlace}
use Rattle.direct_props.specs.Pages.{IsValidStretch}
use Rattle.direct_props.specs.GrpprlCache.{HaveNoFault}
use Rattle.direct_props.proofs.RowLemmas.{IsRest}
use Rattle.direct_props.proofs.rules.are_valid_rows.Given as goal

-- the places that are passed are right
abbrev pub invariant-loop-left : goal.invariant-loop-left
invariant-loop-left l = record {
  rest : IsRest l.places l.left;
  known : HaveNoFault l.kind l.wd l.known;
  stretch : IsValidStretch l.kind l.wd l.bin l.stretch;
  done : (k : ℕ) → k < length l.places - length l.left → IsValidPlace l.kind l.wd l.bin (slice_index_or l.places k 0);
}

abbrev pub decreases-loop-left : goal.decreases-loop-left
decreases-loop-left l = length l.left
