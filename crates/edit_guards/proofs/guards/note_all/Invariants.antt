use Rattle.std.proofs.Common.{map}
use Rattle.edit_guards.proofs.PolicyLemmas.{TellsFirst}
use Rattle.edit_guards.proofs.guards.note_all.Given as goal

-- the guards before the index were told
abbrev pub invariant-loop-guard : goal.invariant-loop-guard
invariant-loop-guard g l =
    TellsFirst (map (λ b. (goal.Guard-dyn g (b.vtable, b.value)).policy b.value) l.initial.guards) l.facts l.guard-index
    (map (λ b. (goal.Guard-dyn g (b.vtable, b.value)).policy b.value) l.guards)
