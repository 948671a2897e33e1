use Rattle.std.proofs.Common.{◌∙◌, ap}
use Rattle.fast_save.specs.Session.{SessionView}
use Rattle.fast_save.proofs.session.Session.quick_saves.Goals as goal

pub returns : goal.returns
returns c = c.quick_saves.ensures ∙ ap (λ (view : SessionView). view.quick_saves) c.self.view_is
