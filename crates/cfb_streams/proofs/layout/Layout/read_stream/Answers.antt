use Rattle.std.proofs.Common.{subst}
use Rattle.cfb_streams.specs.Layout.{layout_places_of}
use Rattle.cfb_streams.specs.Gathered.{TakesStream}
use Rattle.cfb_streams.proofs.GatherLemmas.{takes_nothing}
use Rattle.cfb_streams.proofs.layout.Layout.read_stream.Goals as goal

pub returns-in-Empty-clause-takes : goal.returns-in-Empty-clause-takes
returns-in-Empty-clause-takes c =
    subst (λ p. TakesStream p c.args.entry c.args.taken.now c.args.taken.now) c.self.view_is
    (takes_nothing (layout_places_of c.self.inside.entries c.self.inside.mini.sectors c.self.inside.mini_stream.items)
    c.args.entry c.args.taken.now c.in-Empty.ensures)
