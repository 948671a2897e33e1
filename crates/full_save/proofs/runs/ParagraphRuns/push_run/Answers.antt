use Rattle.std.proofs.Common.{Option, sym, subst}
use Rattle.doc_model.specs.declared.item.Item.{Item}
use Rattle.doc_model.specs.declared.item.Mark.{Mark}
use Rattle.full_save.specs.Alike.{HaveAlike}
use Rattle.full_save.specs.RunsSoFar.{ParagraphsGoOn}
use Rattle.full_save.proofs.ColumnRuns.{paragraphs_more}
use Rattle.full_save.proofs.runs.ParagraphRuns.push_run.Goals as goal

pub returns-in-None : goal.returns-in-None
returns-in-None c = λ at done text place here are so.
    let mark : Item → Option Mark = λ item. item.mark in
    paragraphs_more at done text place c.args.count c.args.self.now
    (subst (λ (value : Option Mark). HaveAlike mark value text place c.args.count) c.in-None.is are) so

pub returns-in_ok-push_marks-in-Some : goal.returns-in_ok-push_marks-in-Some
returns-in_ok-push_marks-in-Some c =
    subst
    (λ (value : Option Mark). ParagraphsGoOn value c.args.count c.args.start c.args.self.now c.push_marks.new.self)
    (sym c.in-Some.is) c.in_ok-push_marks-in-Some.ensures
