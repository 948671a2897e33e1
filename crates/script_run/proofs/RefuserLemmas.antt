-- One policy is the first that does not grant an edit, at most. It belongs to edit_guards.
use Rattle.std.proofs.Common.{◌≡◌, ℕ, ◌<◌, List, [], arith}
use Rattle.std.proofs.lemmas.Bool.{cases_order}
use Rattle.edit_guards.specs.declared.facts.Facts.{Facts}
use Rattle.edit_guards.specs.Policies.{Policy, AllGrant, IsFirstRefuser, lock_of}
use Rattle.edit_guards.proofs.Public.{one_of}

not_behind : (policies : List Policy) (facts : Facts) (i j : ℕ) → IsFirstRefuser policies facts i →
    IsFirstRefuser policies facts j → i < j → ⊥
not_behind policies facts i j first second less =
    first.refuses (lock_of []) (second.before i (lock_of []) (omega arith) less)

pub one_refuser : (policies : List Policy) (facts : Facts) (i j : ℕ) → IsFirstRefuser policies facts i →
    IsFirstRefuser policies facts j → i ≡ j
one_refuser policies facts i j first second = one_of policies facts i j first second (cases_order i j)

pub no_refuser : (policies : List Policy) (facts : Facts) (i : ℕ) → AllGrant policies facts → IsFirstRefuser policies
    facts i → ⊥
no_refuser policies facts i all first = first.refuses (lock_of []) (all i (lock_of []) first.there)
