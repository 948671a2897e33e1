-- The run is the first that the place is in.
use Rattle.std.proofs.Common.{get_or, arith}
use Rattle.std.proofs.lemmas.Option.{slice_get-get_or}
use Rattle.run_lists.proofs.SpreadLemmas.{extent_more}
use Rattle.run_lists.proofs.cut.find.Goals as goal

pub returns-then-left-count : goal.returns-then-left-count
returns-then-left-count g c = record {
  begun = omega arith;
  there = omega arith;
  here = c.loop-run.invariant;
  inside = λ h. (
    get_or c.args.runs.now c.loop-run.run c.index-runs-run.result,
    slice_get-get_or c.args.runs.now c.loop-run.run c.index-runs-run.result h,
    c.if-left-count.true,
  );
  ended = λ e. absurd (omega arith);
}

pub loop-run-preserved : goal.loop-run-preserved
loop-run-preserved g c =
    omega (
      arith,
      extent_more c.args.runs.now c.loop-run.run c.index-runs-run.result (omega arith),
      c.loop-run.invariant,
    )
