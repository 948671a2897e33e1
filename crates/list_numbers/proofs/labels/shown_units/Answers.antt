use Rattle.list_numbers.proofs.FontLemmas.{none_shown}
use Rattle.list_numbers.proofs.labels.shown_units.Goals as goal

pub returns-in_default : goal.returns-in_default
returns-in_default c = none_shown c.args.font c.args.units c.in_default.is
