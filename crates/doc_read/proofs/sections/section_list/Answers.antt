use Rattle.std.proofs.Common.{slice_range, arith}
use Rattle.prop_map.specs.Formed.{section_groups}
use Rattle.prop_map.proofs.Public.{accepted_of}
use Rattle.doc_bits.proofs.Public.{AreBytes-range}
use Rattle.doc_read.proofs.SettingsLemmas.{list-right}
use Rattle.doc_read.proofs.sections.section_list.Goals as goal

pub returns-clause-accepted : goal.returns-clause-accepted
returns-clause-accepted c =
    let wd = c.args.wd.now in
    let from = c.in-Some.from in
    let to = c.in-Some.to in
    accepted_of (slice_range wd from to) section_groups (AreBytes-range wd from to (λ i. let byte = c.type_inv.wd i in
    omega arith))
    (list-right wd c.args.fc from to c.requires.properties c.in-Some.ensures.1 c.in-Some.ensures.2 c.requires.right)
