use Rattle.direct_props.proofs.AnswerLemmas.{outside_here, inside_here}
use Rattle.direct_props.proofs.rules.list_outside.Goals as goal

pub returns-in-Leaves : goal.returns-in-Leaves
returns-in-Leaves c = λ kind wd bin fc table has. outside_here kind wd bin fc c.args.found.number c.args.found.answer
    c.run_answer_is_one.ensures table has c.in-Leaves.entry c.in-Leaves.is

pub returns-in-Found : goal.returns-in-Found
returns-in-Found c = λ kind wd bin fc table has. inside_here kind wd bin fc c.args.found.number c.args.found.answer
    c.run_answer_is_one.ensures table has (λ entry e. let is = c.in-Found.is in cc)

pub returns-in-Empty : goal.returns-in-Empty
returns-in-Empty c = λ kind wd bin fc table has. inside_here kind wd bin fc c.args.found.number c.args.found.answer
    c.run_answer_is_one.ensures table has (λ entry e. let is = c.in-Empty.is in cc)

pub returns-in-BadCount : goal.returns-in-BadCount
returns-in-BadCount c = λ kind wd bin fc table has. inside_here kind wd bin fc c.args.found.number c.args.found.answer
    c.run_answer_is_one.ensures table has (λ entry e. let is = c.in-BadCount.is in cc)

pub returns-in-NoRun : goal.returns-in-NoRun
returns-in-NoRun c = λ kind wd bin fc table has. inside_here kind wd bin fc c.args.found.number c.args.found.answer
    c.run_answer_is_one.ensures table has (λ entry e. let is = c.in-NoRun.is in cc)
