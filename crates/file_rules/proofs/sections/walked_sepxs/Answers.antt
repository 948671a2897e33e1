use Rattle.std.proofs.Common.{sym, subst}
use Rattle.std.specs.List.{All}
use Rattle.std.proofs.lemmas.List.Elements.{All-get_or}
use Rattle.prop_map.specs.Formed.{section_groups}
use Rattle.overlapping_grpprls.specs.Walks.{IsAcceptedRange}
use Rattle.file_rules.proofs.sections.walked_sepxs.Goals as goal

pub loop-range-init : goal.loop-range-init
loop-range-init c = c.new-judged.ensures c.args.wd.now

pub add_right-requires-clause-right : goal.add_right-requires-clause-right
add_right-requires-clause-right c =
    let right = subst (All (IsAcceptedRange c.args.wd.now section_groups)) (sym c.deref-range-items.ensures.value)
    c.in_ok-right.ensures in
    All-get_or (IsAcceptedRange c.args.wd.now section_groups) c.deref-range-items.result.now c.loop-range.range-index _
    c.loop-range-test.true right
