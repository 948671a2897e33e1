-- The laws of specs/Laws.
use Rattle.std.proofs.Common.{◌≡◌, ℕ, ◌<◌, List, arith, inl, inr}
use Rattle.std.proofs.lemmas.Bool.{cases_order}
use Rattle.std.specs.Prelude.{[], ◌⊎◌}
use Rattle.edit_guards.specs.declared.facts.Facts.{Facts}
use Rattle.edit_guards.specs.Policies.{Policy, IsFirstRefuser, lock_of}
use Rattle.edit_guards.specs.Laws.{FirstRefuserIsOne}

-- what refuses grants to none that refuses behind it
not_behind : (policies : List Policy) (facts : Facts) (index other : ℕ)
    → IsFirstRefuser policies facts index → IsFirstRefuser policies facts other → ¬ (index < other)
not_behind policies facts index other first second less =
    first.refuses (lock_of []) (second.before index (lock_of []) (omega arith) less)

pub one_of : (policies : List Policy) (facts : Facts) (index other : ℕ)
    → IsFirstRefuser policies facts index → IsFirstRefuser policies facts other
    → (index ≡ other) ⊎ ((index < other) ⊎ (other < index)) → index ≡ other
one_of policies facts index other first second (inl same) = same
one_of policies facts index other first second (inr (inl less)) =
    absurd (not_behind policies facts index other first second less)
one_of policies facts index other first second (inr (inr more)) =
    absurd (not_behind policies facts other index second first more)

pub one_first_refuser : FirstRefuserIsOne
one_first_refuser = record {
  one = λ policies facts index other first second.
      one_of policies facts index other first second (cases_order index other);
  none = λ policies facts index all first.
      first.refuses (lock_of []) (all index (lock_of []) first.there);
}
