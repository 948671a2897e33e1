use Rattle.file_rules.proofs.SectionLemmas.{properties_none, properties_first}
use Rattle.file_rules.proofs.sections.properties_fault.Goals as goal

pub returns-in-None : goal.returns-in-None
returns-in-None c =
    properties_none c.args.wd.now c.args.fc c.in-Some.from c.in-Some.to c.in-Some.ensures.1 c.in-Some.ensures.2
    c.in-None.ensures.first

pub returns-in-Some-list_fault : goal.returns-in-Some-list_fault
returns-in-Some-list_fault c =
    rw c.at.ensures (properties_first c.args.wd.now c.args.fc c.in-Some.from c.in-Some.to _ c.if-fc-eq-NO_SEPX.false
    c.in-Some.ensures.1 c.in-Some.ensures.2 c.in-Some-list_fault.ensures.first.least)
