use Rattle.doc_read.specs.Sections.{AreMetSections}
use Rattle.doc_read.proofs.SettingsLemmas.{AreMapsUpTo}
use Rattle.doc_read.proofs.sections.read_section_maps.Given as goal

-- the sections so far have their properties
abbrev pub invariant-loop-k : goal.invariant-loop-k
invariant-loop-k l = record {
  so_far : AreMapsUpTo l.text.wd l.sections l.k l.maps.items;
  met : AreMetSections l.wd l.met.places l.met.maps.items;
}
