use Rattle.direct_props.proofs.rules.fault_at.Goals as goal

pub returns-in-Page-rule : goal.returns-in-Page-rule
returns-in-Page-rule c = rw c.in-Page-rule.is (c.bad_page.ensures c.args.kind c.args.bin.now c.args.fc
    c.requires.table (record { page = c.in-Some.ensures; answers = c.answer_at.ensures }))

pub returns-in-Run-rule : goal.returns-in-Run-rule
returns-in-Run-rule c = rw c.in-Run-rule.is (c.no_run.ensures c.args.kind c.args.wd.now c.args.bin.now
    c.requires.table (record { page = c.in-Some.ensures; answers = c.answer_at.ensures }))

pub returns-in-List-rule : goal.returns-in-List-rule
returns-in-List-rule c = rw c.in-List-rule.is (c.list_outside.ensures c.args.kind c.args.wd.now c.args.bin.now
    c.args.fc c.requires.table (record { page = c.in-Some.ensures; answers = c.answer_at.ensures }))
