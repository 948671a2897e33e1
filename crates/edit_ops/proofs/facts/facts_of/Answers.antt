use Rattle.std.proofs.Common.{sym, subst}
use Rattle.std.specs.List.{All}
use Rattle.doc_patch.specs.Makes.{CanRemove}
use Rattle.edit_ops.proofs.FactLemmas.{countable}
use Rattle.edit_ops.proofs.facts.facts_of.Goals as goal

pub all_added-requires : goal.all_added-requires
all_added-requires c =
    let can = countable c.args.document.now c.args.command.now c.requires.sound c.requires.tried in
    rw c.requires.changes can.added

pub all_removed-requires-clause-few : goal.all_removed-requires-clause-few
all_removed-requires-clause-few c =
    let can = countable c.args.document.now c.args.command.now c.requires.sound c.requires.tried in
    rw c.requires.changes can.removed

pub all_removed-requires-clause-there : goal.all_removed-requires-clause-there
all_removed-requires-clause-there c =
    let can = countable c.args.document.now c.args.command.now c.requires.sound c.requires.tried in
    subst (All (CanRemove c.args.document.now)) (sym c.requires.changes) can.there
