use Rattle.std.proofs.Common.{sym, subst}
use Rattle.prop_map.specs.Formed.{IsPropertyMap, section_groups}
use Rattle.doc_read.specs.Sections.{IsSectionProperties}
use Rattle.doc_read.proofs.SettingsLemmas.{met_before, one_met}
use Rattle.doc_read.proofs.sections.MetSections.properties.Goals as goal

pub returns-in-Some-clause-properties : goal.returns-in-Some-clause-properties
returns-in-Some-clause-properties c =
    let met = c.args.self.now in
    subst (IsSectionProperties c.args.wd.now c.args.fc) (sym c.in_ok-copy.ensures) (met_before c.args.wd.now met.places
    met.maps.items c.in-Some.known c.args.fc c.index.result.now c.requires.met c.in-Some.ensures c.index.ensures).is

pub returns-in-Some-clause-formed : goal.returns-in-Some-clause-formed
returns-in-Some-clause-formed c =
    let met = c.args.self.now in
    subst (IsPropertyMap section_groups) (sym c.in_ok-copy.ensures) (met_before c.args.wd.now met.places
    met.maps.items c.in-Some.known c.args.fc c.index.result.now c.requires.met c.in-Some.ensures
    c.index.ensures).formed

pub returns-clause-met : goal.returns-clause-met
returns-clause-met c =
    let met = c.args.self.now in
    rw (c.in_ok-add.ensures.ok, c.in_ok-push.ensures.items)
    (one_met c.args.wd.now met.places met.maps.items c.args.fc c.in_ok-map.map c.requires.met
    (record { is = c.in_ok-map.ensures.properties; formed = c.in_ok-map.ensures.formed }))
