use Rattle.std.proofs.Common.{◌≡◌, replicate}
use Rattle.cfb_in_place.specs.Roles.{other_role}
use Rattle.cfb_in_place.proofs.roles.no_roles.Given as goal

abbrev pub invariant-loop-turn : goal.invariant-loop-turn
invariant-loop-turn l = l.roles.items ≡ replicate l._turn other_role
