use Rattle.direct_props.proofs.AnswerLemmas.{runs_here}
use Rattle.direct_props.proofs.rules.no_run.Goals as goal

pub returns-in-Found : goal.returns-in-Found
returns-in-Found c = λ kind wd bin table has. runs_here kind wd bin c.args.fc c.args.found.number c.args.found.answer
    c.run_answer_is_one.ensures table has (λ e. let is = c.in-Found.is in cc)

pub returns-in-Empty : goal.returns-in-Empty
returns-in-Empty c = λ kind wd bin table has. runs_here kind wd bin c.args.fc c.args.found.number c.args.found.answer
    c.run_answer_is_one.ensures table has (λ e. let is = c.in-Empty.is in cc)

pub returns-in-BadCount : goal.returns-in-BadCount
returns-in-BadCount c = λ kind wd bin table has. runs_here kind wd bin c.args.fc c.args.found.number
    c.args.found.answer c.run_answer_is_one.ensures table has (λ e. let is = c.in-BadCount.is in cc)

pub returns-in-Leaves : goal.returns-in-Leaves
returns-in-Leaves c = λ kind wd bin table has. runs_here kind wd bin c.args.fc c.args.found.number c.args.found.answer
    c.run_answer_is_one.ensures table has (λ e. let is = c.in-Leaves.is in cc)
