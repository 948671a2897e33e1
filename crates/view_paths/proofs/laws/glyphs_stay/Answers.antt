use Rattle.std.proofs.Common.{[]}
use Rattle.view_paths.proofs.NestLemmas.{glyphs-events_from}
use Rattle.view_paths.proofs.laws.glyphs_stay.Goals as goal

pub returns : goal.returns
returns g c = glyphs-events_from g.E.Element.same []
