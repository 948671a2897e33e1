use Rattle.std.proofs.Common.{map}
use Rattle.script_run.specs.States.{starting_state}
use Rattle.script_run.specs.Steps.{IsRunTo}
use Rattle.script_run.proofs.running.run_all.Given as goal

-- the commands before the index are made
abbrev pub invariant-loop-index : goal.invariant-loop-index
invariant-loop-index g l =
    IsRunTo
    (starting_state l.initial.session (map (λ b. (goal.Guard-dyn g (b.vtable, b.value)).policy b.value)
    l.initial.guards))
    (g.S.Source.commands l.source) l.index l.session
    (map (λ b. (goal.Guard-dyn g (b.vtable, b.value)).policy b.value) l.guards)
