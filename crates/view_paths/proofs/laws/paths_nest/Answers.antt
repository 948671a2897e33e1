use Rattle.std.proofs.Common.{[]}
use Rattle.view_paths.proofs.NestLemmas.{nested-events_from}
use Rattle.view_paths.proofs.laws.paths_nest.Goals as goal

pub returns : goal.returns
returns g c = nested-events_from g.E.Element.same g.met.E.Element.exact []
