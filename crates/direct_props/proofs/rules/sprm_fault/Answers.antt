use Rattle.std.proofs.Common.{subst}
use Rattle.fkp_pages.specs.Fkp.{HasRunAnswer}
use Rattle.fkp_pages.specs.Bin.{page_at}
use Rattle.direct_props.proofs.AnswerLemmas.{fault_here, no_list_here, found_has_room}
use Rattle.direct_props.proofs.rules.sprm_fault.Goals as goal

pub returns-in-Found : goal.returns-in-Found
returns-in-Found c = λ bin fc table has.
    let kind = c.args.kind in
    let wd = c.args.wd.now in
    let number = c.args.found.number in
    let from = c.in-Found.from in
    let to = c.in-Found.to in
    fault_here kind wd bin fc number c.args.found.answer c.run_answer_is_one.ensures table has from to
    c.fault_in.result c.in-Found.is
    (c.fault_in.ensures (found_has_room kind wd fc number from to (subst (λ a. HasRunAnswer kind (page_at wd number)
    fc a) c.in-Found.is has.answers)))

pub returns-in-Empty : goal.returns-in-Empty
returns-in-Empty c = λ bin fc table has. no_list_here c.args.kind c.args.wd.now bin fc c.args.found.number
    c.args.found.answer c.run_answer_is_one.ensures table has (λ from to e. let is = c.in-Empty.is in cc)

pub returns-in-BadCount : goal.returns-in-BadCount
returns-in-BadCount c = λ bin fc table has. no_list_here c.args.kind c.args.wd.now bin fc c.args.found.number
    c.args.found.answer c.run_answer_is_one.ensures table has (λ from to e. let is = c.in-BadCount.is in cc)

pub returns-in-NoRun : goal.returns-in-NoRun
returns-in-NoRun c = λ bin fc table has. no_list_here c.args.kind c.args.wd.now bin fc c.args.found.number
    c.args.found.answer c.run_answer_is_one.ensures table has (λ from to e. let is = c.in-NoRun.is in cc)

pub returns-in-Leaves : goal.returns-in-Leaves
returns-in-Leaves c = λ bin fc table has. no_list_here c.args.kind c.args.wd.now bin fc c.args.found.number
    c.args.found.answer c.run_answer_is_one.ensures table has (λ from to e. let is = c.in-Leaves.is in cc)
