use Rattle.std.proofs.Common.{refl}
use Rattle.session_text.proofs.StepLemmas.{main_text_step}
use Rattle.session_text.proofs.steps.main_step.Goals as goal

pub returns-clause-step : goal.returns-clause-step
returns-clause-step c document are =
    main_text_step document c.args.stories _ c.args.from c.args.to c.len-count.result c.args.fresh are c.requires.order
    c.requires.within c.len-count.ensures.len refl
