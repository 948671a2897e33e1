use Rattle.std.proofs.Common.{◌∙◌, sym, ap, subst, Some}
use Rattle.std.proofs.lemmas.Option.{get_or_from_slice_get, slice_get_within}
use Rattle.prop_map.specs.Formed.{IsPropertyMap, section_groups}
use Rattle.doc_read.proofs.EntryLemmas.{entry_found, entry_none}
use Rattle.doc_read.proofs.marked.TextMarks.section_at.Goals as goal

pub returns-in-None-clause-section : goal.returns-in-None-clause-section
returns-in-None-clause-section c =
    let none = rw c.deref.ensures.value at c.in-None.ensures.found in
    sym (entry_none c.args.self.now.section_cps.items c.args.maps.now c.args.cp none)

pub returns-in_ok-copy-in-Some-clause-section : goal.returns-in_ok-copy-in-Some-clause-section
returns-in_ok-copy-in-Some-clause-section c =
    let found = rw c.deref.ensures.value at c.in-Some.ensures.found in
    let map = c.get.result.now in
    ap Some c.in_ok-copy-in-Some.ensures ∙ sym (entry_found c.args.self.now.section_cps.items c.args.maps.now
    c.args.cp c.in-Some.k map c.requires.listed.up found.0 found.1 c.get.ensures)

pub returns-in_ok-copy-in-Some-clause-formed : goal.returns-in_ok-copy-in-Some-clause-formed
returns-in_ok-copy-in-Some-clause-formed c =
    let maps = c.args.maps.now in
    let map = c.get.result.now in
    let k = c.in-Some.k in
    subst (IsPropertyMap section_groups) (get_or_from_slice_get maps k map map c.get.ensures ∙ sym
    c.in_ok-copy-in-Some.ensures) (c.requires.maps k map (slice_get_within maps k map c.get.ensures))
