use Rattle.std.proofs.Common.{◌++◌}
use Rattle.markdown_page.specs.declared.marks.Mark.TheVariants as mark
use Rattle.markdown_page.specs.Marks.{mark_text}
use Rattle.markdown_page.specs.Pieces.{marks_text}
use Rattle.markdown_page.proofs.TokenLemmas.{markups_then}
use Rattle.markdown_page.proofs.pen.Pen.put_rule.Goals as goal

pub returns : goal.returns
returns g c =
    let columns = marks_text mark.RuleColumn c.args.columns in
    markups_then g.K.Sink c.args.out.now c.put_mark.new.out c.put_mark-2.new.out c.args.self.now c.put_mark.new.self
    c.put_mark-2.new.self (mark_text mark.RuleFront) (columns ++ mark_text mark.LineEnd) c.put_mark.ensures
    (markups_then g.K.Sink c.put_mark.new.out c.put_marks.new.out c.put_mark-2.new.out c.put_mark.new.self
    c.put_marks.new.self c.put_mark-2.new.self columns (mark_text mark.LineEnd) c.put_marks.ensures
    c.put_mark-2.ensures)
