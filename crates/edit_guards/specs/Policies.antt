-- What a guard allows: a policy, and how edits that were accepted change it.
use Rattle.std.specs.Prelude.{ℕ, ◌-◌, ◌<◌, ◌≤◌, List, [], Option, Some, None, All, ⊤, length, map}
use Rattle.std.specs.List.{Contains, AllWithin, HoldsAt}
use Rattle.edit_guards.specs.declared.facts.Facts.{Facts}

-- how many more items edits may add, where a number is given, and the styles that they may not concern
pub record Policy : Type 0 where
  pub left : Option ℕ
  pub locked : List ℕ

-- so many items are left, or no number is given
abbrev pub AreLeft : Option ℕ → ℕ → Type 0
AreLeft None items = ⊤
AreLeft (Some left) items = items ≤ left

-- the policy grants an edit that does this
pub record Grants (policy : Policy) (facts : Facts) : Type 0 where
  pub within : AreLeft policy.left facts.units_in
  pub unlocked : ¬ (Contains policy.locked facts.style)

-- what is left after so many items, where a number is given
abbrev pub left_after : Option ℕ → ℕ → Option ℕ
left_after None items = None
left_after (Some left) items = Some (left - items)

-- the policy after an edit that was granted
abbrev pub policy_after : Policy → Facts → Policy
policy_after policy facts = record { left = left_after policy.left facts.units_in; locked = policy.locked }

-- each policy grants the edit
abbrev pub AllGrant : List Policy → Facts → Type 0
AllGrant policies facts = All (λ (policy : Policy). Grants policy facts) policies

-- the policy at this index is the first that does not grant the edit
pub record IsFirstRefuser (policies : List Policy) (facts : Facts) (index : ℕ) : Type 0 where
  pub there : index < length policies
  pub before : AllWithin (λ (policy : Policy). Grants policy facts) policies 0 index
  pub refuses : HoldsAt (λ (policy : Policy). ¬ (Grants policy facts)) policies index

-- each policy after an edit that all of them granted
abbrev pub policies_after : List Policy → Facts → List Policy
policies_after policies facts = map (λ (policy : Policy). policy_after policy facts) policies

-- so many items, and no style is locked
abbrev pub quota_of : ℕ → Policy
quota_of units = record { left = Some units; locked = [] }

-- any number of items, and these styles are locked
abbrev pub lock_of : List ℕ → Policy
lock_of styles = record { left = None; locked = styles }
