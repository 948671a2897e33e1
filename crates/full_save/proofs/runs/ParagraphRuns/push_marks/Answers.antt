use Rattle.full_save.proofs.ColumnRuns.{none_marked, one_marked, all_marked}
use Rattle.full_save.proofs.runs.ParagraphRuns.push_marks.Goals as goal

pub loop-i-init : goal.loop-i-init
loop-i-init c = none_marked c.args.mark.now c.args.count c.args.start c.args.self.now

pub loop-i-preserved : goal.loop-i-preserved
loop-i-preserved c =
    one_marked c.args.mark.now c.args.count c.args.start c.loop-i.i c.args.self.now c.loop-i.self c.close.new.self
    c.loop-i-test.true c.in_ok-close.ensures c.loop-i.invariant

pub returns : goal.returns
returns c =
    all_marked c.args.mark.now c.args.count c.args.start c.loop-i.i c.args.self.now c.loop-i.self c.loop-i-test.false
    c.loop-i.invariant
