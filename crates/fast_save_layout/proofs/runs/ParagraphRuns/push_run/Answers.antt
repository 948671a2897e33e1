use Rattle.std.proofs.Common.{Option, sym, subst}
use Rattle.doc_model.specs.declared.item.Item.{Item}
use Rattle.doc_model.specs.declared.item.Mark.{Mark}
use Rattle.full_save.specs.Alike.{HaveAlike}
use Rattle.fast_save_layout.specs.RunsSoFar.{MarksGoOn}
use Rattle.fast_save_layout.proofs.MarkRunSteps.{marks_more}
use Rattle.fast_save_layout.proofs.runs.ParagraphRuns.push_run.Goals as goal

pub returns-in-None-clause-now : goal.returns-in-None-clause-now
returns-in-None-clause-now c = λ at done text place here are so.
    let mark : Item → Option Mark = λ item. item.mark in
    marks_more at done text place c.args.count c.args.self.now
    (subst (λ (value : Option Mark). HaveAlike mark value text place c.args.count) c.in-None.is are) so

pub returns-in_ok-push_marks-in-Some-clause-now : goal.returns-in_ok-push_marks-in-Some-clause-now
returns-in_ok-push_marks-in-Some-clause-now c =
    subst
    (λ (value : Option Mark). MarksGoOn value c.args.count c.args.at c.args.self.now c.push_marks.new.self)
    (sym c.in-Some.is) c.in_ok-push_marks-in-Some.ensures.now
