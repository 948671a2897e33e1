-- What the definitions imply.
use Rattle.std.specs.Prelude.{◌≡◌, ℕ, List}
use Rattle.edit_guards.specs.declared.facts.Facts.{Facts}
use Rattle.edit_guards.specs.Policies.{Policy, AllGrant, IsFirstRefuser}

-- there is one first refuser at most, and none where all policies grant
pub record FirstRefuserIsOne : Type 0 where
  pub one : (policies : List Policy) (facts : Facts) (index other : ℕ)
      → IsFirstRefuser policies facts index → IsFirstRefuser policies facts other → index ≡ other
  pub none : (policies : List Policy) (facts : Facts) (index : ℕ)
      → AllGrant policies facts → ¬ (IsFirstRefuser policies facts index)
