use Rattle.std.proofs.Common.{◌∙◌, subst}
use Rattle.fast_save.specs.Started.{IsStarted}
use Rattle.script_run.proofs.GeneratedStartLemmas.{never_refused}
use Rattle.script_run.proofs.generating.blank_session.Goals as goal

pub unreachable-requires : goal.unreachable-requires
unreachable-requires c =
    never_refused c.as_slice.result.now c.in-Err-Refused.field-0 c.in-Err-Refused.field-0-0 c.in-Err-Refused.field-0-1
    c.in-Err-Refused.field-0-2 (c.as_slice.ensures ∙ c.in_ok-file.ensures) c.in-Err-Refused.ensures
    c.in-Err-Refused.field-0-is

pub returns-in-Ok : goal.returns-in-Ok
returns-in-Ok c =
    subst (λ file. IsStarted file c.in-Ok.session) (c.as_slice.ensures ∙ c.in_ok-file.ensures) c.in-Ok.ensures
