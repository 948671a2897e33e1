use Rattle.std.proofs.Common.{◌≡◌, ◌<◌, ◌≤◌, ◌+◌, ◌-◌, IfSome, inl, inr, arith, ℕ, List, length}
use Rattle.std.proofs.Common.{slice_index_or, sym, subst, ap, ◌∙◌}
use Rattle.std.proofs.lemmas.Bool.{cases_lt}
use Rattle.direct_props.specs.declared.rules.RightStretch.{RightStretch}
use Rattle.direct_props.specs.PageRules.{IsValidPlace}
use Rattle.direct_props.specs.Pages.{IsValidStretch}
use Rattle.direct_props.specs.GrpprlCache.{HaveNoFault}
use Rattle.direct_props.proofs.KeptLemmas.{no_places}
use Rattle.direct_props.proofs.RowLemmas.{all_left, index_rest, more_passed}
use Rattle.direct_props.proofs.rules.are_valid_rows.Goals as goal

pub loop-left-init : goal.loop-left-init
loop-left-init c =
    let rest = all_left c.args.places.now c.skip-left.result c.skip-left.ensures in
    let all = ap length c.skip-left.ensures in
    record {
      rest = rest;
      known = subst (HaveNoFault c.args.kind c.args.wd.now) (sym c.new-known.ensures)
          (no_places c.args.kind c.args.wd.now);
      stretch = record {
        right = λ fc low high. absurd (omega arith);
        next = c.start.ensures c.args.wd.now c.args.bin.now;
      };
      done = λ k below. absurd (omega (arith, all, below));
    }

pub loop-left-preserved : goal.loop-left-preserved
loop-left-preserved c =
    let kind = c.args.kind in
    let wd : List ℕ = c.args.wd.now in
    let bin : List ℕ = c.args.bin.now in
    let places : List ℕ = c.args.places.now in
    let left : List ℕ = c.loop-left.left in
    let fc : ℕ = c.first.result in
    let passed : ℕ = length places - length left in
    let right = subst (λ o. IfSome o (λ (s : RightStretch). IsValidPlace kind wd bin fc × IsValidStretch kind wd bin s))
    c.in-Some.is c.in_ok-valid_run_at.ensures.right in
    let around = subst (λ o. IfSome o (λ (s : RightStretch). (s.first ≤ fc) × (fc ≤ s.last)))
    c.in-Some.is c.in_ok-valid_run_at.ensures.around in
    let rest = c.loop-left.invariant.rest in
    let more = more_passed places left c.skip-left-in-loop-left.result c.count_up_to.result rest
    c.count_up_to.ensures.inside c.skip-left-in-loop-left.ensures in
    record {
      rest = more.0;
      known = c.in_ok-valid_run_at.ensures.known;
      stretch = right.1;
      done = λ k below. elim (cases_lt k passed) [
        | inl before ↦ c.loop-left.invariant.done k before
        | inr now ↦
            let j : ℕ = k - passed in
            let here : passed + j ≡ k = omega (arith, now) in
            let less : j < c.count_up_to.result = omega (arith, below, more.1, now) in
            subst (IsValidPlace kind wd bin) (index_rest places left j rest ∙ ap (λ n. slice_index_or places n 0) here)
            (right.1.right (slice_index_or left j 0)
            (omega (arith, around.0, c.first.ensures, c.count_up_to.ensures.above j less))
            (c.count_up_to.ensures.below j less))
      ];
    }
