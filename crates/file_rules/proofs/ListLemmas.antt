-- The levels of lists are within the table stream.
use Rattle.std.proofs.Common.{◌≡◌, inl, inr, ℕ, zero, suc, ◌+◌, ◌-◌, ◌<◌, ◌≤◌, List, [], length, drop, refl, sym, ap}
use Rattle.std.proofs.Common.{subst, ◌∙◌, add-one, arith}
use Rattle.std.specs.List.{slice_range}
use Rattle.std.proofs.lemmas.Bool.{cases_lt}
use Rattle.std.proofs.lemmas.List.{length-take, nil_from_length}
use Rattle.doc_bits.specs.Rules.{Nowhere, Hold}
use Rattle.doc_parts.specs.Levels.{level_start, level_count, list_part, LeavesTable, level_rules, HaveLength}
use Rattle.doc_parts.proofs.Public.{level_start-zero, level_count-empty}

-- where no level leaves the table stream, the last one ends within it
level_start-within : (table : List ℕ) (from n : ℕ) → from ≤ length table → ((k : ℕ) → k < n →
    Nowhere (LeavesTable table from k)) → level_start table from n ≤ length table
level_start-within table from zero h none = let e = level_start-zero table from in omega arith
level_start-within table from (suc k) h none = elim (cases_lt (length table) (level_start table from (k + 1))) [
  | inl over ↦ absurd (none k (omega arith) (level_start table from k) (record { here = refl; beyond = over }))
  | inr within ↦ subst (λ n. level_start table from n ≤ length table) (add-one k) within
]

pub levels_within : (table : List ℕ) (at lcb len : ℕ) → at + lcb ≤ length table → Hold (level_rules table at lcb) →
    HaveLength table at lcb len → at + lcb + len ≤ length table
levels_within table at lcb len h holds have =
    let within = level_start-within table (at + lcb) (level_count (list_part table at lcb)) h (λ k below p leaves.
    holds p (inr (record { entry = k; below = below; broken = leaves }))) in
    omega arith

-- a range of no bytes
empty_range : (xs : List ℕ) (from to : ℕ) → from ≡ to → slice_range xs from to ≡ []
empty_range xs from to e =
    let len = length-take (to - from) (drop from xs) in nil_from_length (slice_range xs from to) (omega arith)

-- an empty part has no levels
pub levels_empty : (table : List ℕ) (at lcb : ℕ) → lcb ≡ 0 → Hold (level_rules table at lcb) × (HaveLength table at
    lcb 0 × ([] ≡ slice_range table (at + lcb) (at + lcb + 0)))
levels_empty table at lcb e =
    let part : list_part table at lcb ≡ [] = empty_range table at (at + lcb) (omega arith) in
    let none : length (list_part table at lcb) ≡ 0 = ap length part in
    let count : level_count (list_part table at lcb) ≡ 0 = level_count-empty (list_part table at lcb) none in (
      (λ p w. elim w [ inl x ↦ x.1 (inl none) | inr y ↦ (let below = y.below in omega arith) ]),
      (
        (let end : level_start table (at + lcb) (level_count (list_part table at lcb)) ≡ at + lcb = ap
            (λ n. level_start table (at + lcb) n) count ∙ level_start-zero table (at + lcb) in omega arith),
        sym (empty_range table (at + lcb) (at + lcb + 0) (omega arith)),
      ),
    )
