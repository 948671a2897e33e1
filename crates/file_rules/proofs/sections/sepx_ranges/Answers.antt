use Rattle.std.proofs.lemmas.List.Elements.{All-nil}
use Rattle.file_rules.specs.SectionRules.{IsSepxRange}
use Rattle.file_rules.proofs.sections.sepx_ranges.Goals as goal

pub loop-k-init : goal.loop-k-init
loop-k-init c = rw c.new-ranges.ensures.items (All-nil (IsSepxRange c.args.wd.now))
