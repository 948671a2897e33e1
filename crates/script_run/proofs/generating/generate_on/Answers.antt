use Rattle.std.proofs.Common.{◌∙◌, sym, subst}
use Rattle.script_run.specs.Ends.{IsUnchanged}
use Rattle.script_run.proofs.GeneratedStartLemmas.{start_unchanged}
use Rattle.script_run.proofs.GeneratedImageLemmas.{never_stopped, none_mapped, run_of}
use Rattle.script_run.proofs.generating.generate_on.Goals as goal

pub run_all-requires-clause-unchanged : goal.run_all-requires-clause-unchanged
run_all-requires-clause-unchanged c = subst IsUnchanged (sym c.in_ok-save_blank.ensures) start_unchanged

pub unreachable-requires : goal.unreachable-requires
unreachable-requires c =
    never_stopped c.args.seed c.in-Err-Stopped.field-0-0 c.in-Err-Stopped.field-0-1 c.save_blank.new.session _
    c.in-Err-Stopped.field-0 c.requires.few c.in_ok-save_blank.ensures
    (none_mapped _ _ (c.deref_mut.ensures.value ∙ c.new-guards.ensures.items)) c.in-Err-Stopped.ensures.err
    c.in-Err-Stopped.field-0-is

pub left_by-requires-clause-run : goal.left_by-requires-clause-run
left_by-requires-clause-run c =
    run_of c.args.seed c.save_blank.new.session _ c.run_all.new.session _ c.in_ok-save_blank.ensures
    (none_mapped _ _ (c.deref_mut.ensures.value ∙ c.new-guards.ensures.items)) c.in-Ok.ensures.ok
