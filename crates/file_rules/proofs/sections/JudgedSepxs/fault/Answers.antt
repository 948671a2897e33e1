use Rattle.file_rules.proofs.JudgedLemmas.{judged_before, one_judged}
use Rattle.file_rules.proofs.sections.JudgedSepxs.fault.Goals as goal

pub returns-in-Some-clause-fault : goal.returns-in-Some-clause-fault
returns-in-Some-clause-fault c =
    let judged = c.args.self.now in
    judged_before c.args.wd.now judged.places judged.faults.items c.in-Some.known c.args.fc c.index-fault.result.now
    c.requires.judged c.in-Some.ensures c.index-fault.ensures

pub returns-clause-judged : goal.returns-clause-judged
returns-clause-judged c =
    let judged = c.args.self.now in
    rw (c.in_ok-add.ensures.ok, c.in_ok-push.ensures.items)
    (one_judged c.args.wd.now judged.places judged.faults.items c.args.fc c.properties_fault-fault.result
    c.requires.judged c.properties_fault-fault.ensures)
