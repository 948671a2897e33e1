use Rattle.std.proofs.Common.{inr, refl}
use Rattle.prop_map.specs.Formed.{section_groups}
use Rattle.direct_props.proofs.Public.{stays_formed}
use Rattle.doc_read.proofs.SettingsLemmas.{is-made}
use Rattle.doc_read.proofs.sections.read_section.Goals as goal
use Rattle.prop_map.proofs.Public.{IsPropertyMap-empty}

pub returns-then-fc-eq-NO_SEPX-clause-formed : goal.returns-then-fc-eq-NO_SEPX-clause-formed
returns-then-fc-eq-NO_SEPX-clause-formed c = rw c.new-none.ensures (IsPropertyMap-empty section_groups)

pub returns-clause-properties : goal.returns-clause-properties
returns-clause-properties c =
    inr (is-made c.args.wd.now c.section_list.result.now c.args.fc c.new-none.result c.in_ok-acted.acted
    c.if-fc-eq-NO_SEPX.false c.section_list.ensures.list c.section_list.ensures.accepted c.new-none.ensures
    c.in_ok-acted.ensures.acted)

pub returns-clause-formed : goal.returns-clause-formed
returns-clause-formed c = stays_formed section_groups section_groups c.new-none.result c.in_ok-acted.acted.map refl
    c.new-none.ensures c.in_ok-acted.ensures.formed
