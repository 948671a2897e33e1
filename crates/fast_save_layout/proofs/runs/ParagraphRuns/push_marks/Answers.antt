use Rattle.std.proofs.Common.{◌∙◌, refl}
use Rattle.fast_save_layout.proofs.MarkRunSteps.{none_marked, one_marked, all_marked}
use Rattle.fast_save_layout.proofs.runs.ParagraphRuns.push_marks.Goals as goal

pub loop-i-init : goal.loop-i-init
loop-i-init c = (none_marked c.args.mark.now c.args.count c.args.at c.args.self.now, refl)

pub loop-i-preserved : goal.loop-i-preserved
loop-i-preserved c = (
  one_marked c.args.mark.now c.args.count c.args.at c.loop-i.i c.args.self.now c.loop-i.self c.close.new.self
      c.loop-i-test.true c.in_ok-close.ensures.now c.loop-i.invariant.0,
  c.in_ok-close.ensures.start ∙ c.loop-i.invariant.1,
)

pub returns-clause-now : goal.returns-clause-now
returns-clause-now c =
    all_marked c.args.mark.now c.args.count c.args.at c.loop-i.i c.args.self.now c.loop-i.self c.loop-i-test.false
    c.loop-i.invariant.0
