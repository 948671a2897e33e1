use Rattle.std.proofs.Common.{ap}
use Rattle.fast_save.specs.Session.{SessionView}
use Rattle.fast_save.proofs.ResultLemmas.{sound_copy}
use Rattle.fast_save.proofs.session.Session.document.Goals as goal

pub returns : goal.returns
returns c =
    sound_copy c.items_of.result c.self.inside.document c.args.self.now.document
    (ap (λ (view : SessionView). view.document) c.self.view_is) c.self.invariant.0.sound c.items_of.ensures.items
