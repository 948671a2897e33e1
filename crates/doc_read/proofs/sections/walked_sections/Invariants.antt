use Rattle.std.proofs.Common.{length}
use Rattle.std.specs.List.{All}
use Rattle.prop_map.specs.Formed.{section_groups}
use Rattle.overlapping_grpprls.specs.Keeping.{IsWalkedMap}
use Rattle.doc_read.specs.Sections.{AreMetSections}
use Rattle.doc_read.proofs.sections.walked_sections.Given as goal

abbrev pub invariant-loop-walked : goal.invariant-loop-walked
invariant-loop-walked l = record {
  left : All (IsWalkedMap l.wd section_groups) l.left.items;
  met : AreMetSections l.wd l.met.places l.met.maps.items;
}

abbrev pub decreases-loop-walked : goal.decreases-loop-walked
decreases-loop-walked l = length l.left.items
