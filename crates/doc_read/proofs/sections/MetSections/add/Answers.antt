use Rattle.doc_read.proofs.SettingsLemmas.{one_met, walked_section}
use Rattle.doc_read.proofs.sections.MetSections.add.Goals as goal

pub returns : goal.returns
returns c =
    let met = c.args.self.now in
    let wd = c.args.wd.now in
    let walked = c.args.walked in
    rw (c.in_ok-add.ensures.ok, c.in_ok-push.ensures.items)
    (one_met wd met.places met.maps.items c.in-Some.place walked.map c.requires.met
    (walked_section wd walked.range c.in-Some.place walked.map c.if-place.false c.in-Some.ensures
    c.requires.walked))
