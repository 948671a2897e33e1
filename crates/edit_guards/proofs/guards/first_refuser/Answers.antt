use Rattle.std.proofs.Common.{rules}
use Rattle.std.proofs.lemmas.Iterator.{IsFirst-from_position, YieldsList-from_slice}
use Rattle.edit_guards.specs.Policies.{Grants}
use Rattle.edit_guards.proofs.PolicyLemmas.{first_refuser_of_search}
use Rattle.edit_guards.proofs.guards.first_refuser.Goals as goal
use borrow.Author.Tests.{tests}

pub returns : goal.returns
returns g c =
    first_refuser_of_search _ c.args.guards.now c.args.facts c.position.result
    (IsFirst-from_position _ _ _
    (λ b. ¬ (Grants ((goal.Guard-dyn g (b.vtable, b.value)).policy b.value) c.args.facts))
    (λ b. Grants ((goal.Guard-dyn g (b.vtable, b.value)).policy b.value) c.args.facts)
    c.position.ensures.ran (YieldsList-from_slice c.args.guards.now c.iter.ensures.rest)
    (λ x q k. search (rules, tests)) (λ x q k. search (rules, tests)))
