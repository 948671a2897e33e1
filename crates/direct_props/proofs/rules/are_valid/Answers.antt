use Rattle.std.proofs.Common.{IfSome, below_more, arith, slice_index_or, sym, subst}
use Rattle.direct_props.specs.declared.rules.RightStretch.{RightStretch}
use Rattle.direct_props.specs.PageRules.{IsValidPlace}
use Rattle.direct_props.specs.Pages.{IsValidStretch}
use Rattle.direct_props.specs.GrpprlCache.{HaveNoFault}
use Rattle.direct_props.proofs.KeptLemmas.{no_places}
use Rattle.direct_props.proofs.rules.are_valid.Goals as goal

pub loop-place-init : goal.loop-place-init
loop-place-init c = record {
  known = subst (HaveNoFault c.args.kind c.args.wd.now) (sym c.new-known.ensures) (no_places c.args.kind c.args.wd.now);
  stretch = record { right = λ fc low high. absurd (omega arith); next = c.start.ensures c.args.wd.now c.args.bin.now };
  done = λ k below. absurd (omega arith);
}

pub valid_run_at-requires-clause-stretch : goal.valid_run_at-requires-clause-stretch
valid_run_at-requires-clause-stretch c = c.loop-place.invariant.stretch

pub valid_run_at-requires-clause-known : goal.valid_run_at-requires-clause-known
valid_run_at-requires-clause-known c = c.loop-place.invariant.known

pub loop-place-preserved : goal.loop-place-preserved
loop-place-preserved c =
    let place = slice_index_or c.args.places.now c.loop-place.place-index 0 in
    let right = subst (λ o. IfSome o (λ (s : RightStretch). IsValidPlace c.args.kind c.args.wd.now c.args.bin.now
    place × IsValidStretch c.args.kind c.args.wd.now c.args.bin.now s)) c.in-Some.is
    c.in_ok-valid_run_at.ensures.right in
    record {
      known = c.in_ok-valid_run_at.ensures.known;
      stretch = right.1;
      done = below_more (λ k. IsValidPlace c.args.kind c.args.wd.now c.args.bin.now (slice_index_or c.args.places.now
          k 0)) c.loop-place.place-index c.loop-place.invariant.done right.0;
    }

pub returns : goal.returns
returns c = λ _ k below. c.loop-place.invariant.done k (omega arith)
