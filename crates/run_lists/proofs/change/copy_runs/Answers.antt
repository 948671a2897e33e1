-- What stays as it is is the range.
use Rattle.std.specs.Prelude.{slice_range}
use Rattle.run_lists.specs.Spread.{expanded}
use Rattle.run_lists.proofs.ChangeLemmas.{together_same}
use Rattle.run_lists.proofs.change.copy_runs.Goals as goal

pub returns-clause-copy : goal.returns-clause-copy
returns-clause-copy g c =
    together_same (slice_range (expanded c.args.runs.now) c.args.from c.args.to) c.in_ok-copy.copy c.in_ok-copy.ensures
