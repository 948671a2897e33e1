-- What is found among guards is found among their policies, and guards that are told one by one are all told.
use Rattle.std.proofs.Common.{◌≡◌, ℕ, ◌+◌, ◌-◌, ◌<◌, ◌≤◌, List, [], ◌∷◌, ◌++◌, map, length, MatchOption, Option, Some}
use Rattle.std.proofs.Common.{None, arith, ap, subst, sym, ◌∙◌}
use Rattle.std.specs.Prelude.{take, drop, slice_set, slice_index_or}
use Rattle.std.specs.List.{AllWithin, HoldsAt}
use Rattle.std.proofs.lemmas.List.Elements.{All-map, All-from_all_within}
use Rattle.std.proofs.lemmas.List.Edits.{map_over_more}
use Rattle.std.proofs.lemmas.List.{length-map, get_or-map, map-set, get_or-append_right, get_or-drop, length-take-le}
use Rattle.edit_guards.specs.declared.facts.Facts.{Facts}
use Rattle.edit_guards.specs.Policies.{Policy, Grants, policy_after, AllGrant, IsFirstRefuser, policies_after}

-- what holds of the values of the first elements holds of the first values
all_within_map : {X Y : Type 0} (f : X → Y) (P : Y → Type 0) (xs : List X) (d : X) (high : ℕ) → high ≤ length xs
    → AllWithin (λ (x : X). P (f x)) xs 0 high → AllWithin P (map f xs) 0 high
all_within_map f P xs d high fits all =
    λ k e low below. subst P (sym (get_or-map f xs k d e (omega (arith, below, fits)))) (all k d low below)

-- the first guard that refuses is the first policy that does not grant
pub first_refuser_of_search : {G : Type 0} (policy : G → Policy) (guards : List G) (facts : Facts) (found : Option ℕ)
    → MatchOption found
    (AllWithin (λ (guard : G). Grants (policy guard) facts) guards 0 (length guards))
    (λ index. (index < length guards) × HoldsAt (λ (guard : G). ¬ (Grants (policy guard) facts)) guards index
    × AllWithin (λ (guard : G). Grants (policy guard) facts) guards 0 index)
    → MatchOption found (AllGrant (map policy guards) facts) (IsFirstRefuser (map policy guards) facts)
first_refuser_of_search {G} policy guards facts None all =
    All-map (λ (p : Policy). Grants p facts) policy guards
    (All-from_all_within (λ (guard : G). Grants (policy guard) facts) guards all)
first_refuser_of_search policy [] facts (Some index) found = absurd (omega (arith, found.0))
first_refuser_of_search policy (guard ∷ guards) facts (Some index) found = record {
  there = subst (λ n. index < n) (sym (length-map (guard ∷ guards) policy)) found.0;
  before = all_within_map policy (λ (p : Policy). Grants p facts) (guard ∷ guards) guard index (omega (
    arith,
    found.0,
  )) found.2;
  refuses = λ d. subst (λ (p : Policy). ¬ (Grants p facts))
      (sym (get_or-map policy (guard ∷ guards) index guard d found.0)) (found.1 guard);
}

-- the policies where those before the index were told, and the others were not
abbrev pub TellsFirst : List Policy → Facts → ℕ → List Policy → Type 0
TellsFirst before facts index policies =
    policies ≡ policies_after (take index before) facts ++ drop index before

-- the policy at the index was not told
waits : (before policies : List Policy) (facts : Facts) (index : ℕ) (d : Policy) → index < length before
    → TellsFirst before facts index policies
    → slice_index_or policies index d ≡ slice_index_or before index d
waits before policies facts index d within told =
    ap (λ (ps : List Policy). slice_index_or ps index d) told
    ∙ get_or-append_right (policies_after (take index before) facts) (drop index before) index index d
    (length-map (take index before) (λ (p : Policy). policy_after p facts) ∙ length-take-le index before
    (omega (arith, within))) (omega arith)
    ∙ get_or-drop index before (index - index) d
    ∙ ap (λ k. slice_index_or before k d) (omega arith)

-- so it grants what all granted
pub next_grants : {G : Type 0} (policy : G → Policy) (first guards : List G) (facts : Facts) (index : ℕ) (d : G)
    → index < length first → length guards ≡ length first
    → TellsFirst (map policy first) facts index (map policy guards)
    → AllGrant (map policy first) facts → Grants (policy (slice_index_or guards index d)) facts
next_grants policy first guards facts index d within same told all =
    let there = subst (λ n. index < n) (sym (length-map first policy)) within in
    subst (λ (p : Policy). Grants p facts)
    (sym (waits (map policy first) (map policy guards) facts index (policy d) there told)
    ∙ get_or-map policy guards index d (policy d) (omega (arith, within, same)))
    (all index (policy d) there)

-- and once its guard is told, one more was told
pub one_more_told : {G : Type 0} (policy : G → Policy) (first guards : List G) (facts : Facts) (index : ℕ) (d new : G)
    → index < length first → length guards ≡ length first
    → TellsFirst (map policy first) facts index (map policy guards)
    → policy new ≡ policy_after (policy (slice_index_or guards index d)) facts
    → TellsFirst (map policy first) facts (index + 1) (map policy (slice_set guards index new))
one_more_told policy first guards facts index d new within same told after =
    map-set policy guards index new
    ∙ ap (λ (p : Policy). slice_set (map policy guards) index p) after
    ∙ map_over_more (λ (p : Policy). policy_after p facts) (map policy first) (map policy guards) index
    (policy (slice_index_or guards index d))
    (subst (λ n. index < n) (sym (length-map first policy)) within) told
    (sym (get_or-map policy guards index d (policy (slice_index_or guards index d)) (omega (arith, within, same))))
