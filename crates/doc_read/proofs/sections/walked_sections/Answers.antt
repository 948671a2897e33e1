use Rattle.std.proofs.Common.{Some}
use Rattle.std.proofs.lemmas.List.Elements.{All-pop}
use Rattle.prop_map.specs.Formed.{section_groups}
use Rattle.overlapping_grpprls.specs.Keeping.{IsWalkedMap}
use Rattle.doc_read.proofs.sections.walked_sections.Goals as goal

pub loop-walked-init : goal.loop-walked-init
loop-walked-init c = record { left = c.in_ok-left.ensures; met = c.new-met.ensures c.args.wd.now }

pub add-requires-clause-walked : goal.add-requires-clause-walked
add-requires-clause-walked c = (All-pop (IsWalkedMap c.args.wd.now section_groups) c.loop-walked.left.items
    c.pop.new.self.items (Some c.in-Some.walked) c.in-Some.ensures.items c.loop-walked.invariant.left).1

pub loop-walked-preserved : goal.loop-walked-preserved
loop-walked-preserved c = record {
  left = (All-pop (IsWalkedMap c.args.wd.now section_groups) c.loop-walked.left.items c.pop.new.self.items
      (Some c.in-Some.walked) c.in-Some.ensures.items c.loop-walked.invariant.left).0;
  met = c.in_ok-add.ensures;
}
