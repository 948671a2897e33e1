use Rattle.std.proofs.lemmas.List.Elements.{All-push}
use Rattle.overlapping_grpprls.specs.declared.ranges.ListRange.{ListRange}
use Rattle.file_rules.specs.SectionRules.{IsSepxRange}
use Rattle.file_rules.proofs.sections.push_range.Goals as goal

pub returns : goal.returns
returns c =
    let range : ListRange = record { from = c.in-Some.from; to = c.in-Some.to } in
    rw c.in_ok-push.ensures.items (All-push (IsSepxRange c.args.wd.now) c.args.ranges.now.items range c.requires
    (record { place = c.args.fc; is = record { from = c.in-Some.ensures.1; to = c.in-Some.ensures.2 } }))
