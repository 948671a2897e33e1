use Rattle.std.proofs.Common.{None}
use Rattle.file_rules.proofs.JudgedLemmas.{one_judged}
use Rattle.file_rules.proofs.SectionLemmas.{right_list}
use Rattle.file_rules.proofs.sections.JudgedSepxs.add_right.Goals as goal

pub returns : goal.returns
returns c =
    let judged = c.args.self.now in
    let wd = c.args.wd.now in
    let place = c.in-Some.place in
    rw (c.in_ok-add.ensures.ok, c.in_ok-push.ensures.items) (one_judged wd judged.places judged.faults.items place None
    c.requires.judged (right_list wd c.args.range place c.in-Some.ensures c.requires.right))
