-- Rules on the entries of a table.
use Rattle.std.proofs.Common.{◌≡◌, ◌⊎◌, inl, inr, Option, ℕ, ◌<◌, ◌≤◌, List, map, slice_get, slice_index, Some}
use Rattle.std.proofs.Common.{refl, ap, ◌∙◌, arith}
use Rattle.std.proofs.lemmas.Option.{slice_get_within, get_or_from_slice_get}
use Rattle.std.proofs.lemmas.List.{get_or-map}
use Rattle.doc_bits.specs.Rules.{Nowhere, IsLeast, LeastOrNone}
use Rattle.doc_parts.specs.Table.{IsMalformedPart}
use Rattle.doc_bits.proofs.Public.{first_among, least_same}
use Rattle.file_rules.specs.Rows.{IsWrongRow, HasWrongRow}

-- where places ascend, the first wrong entry has the least place
pub first_row : (place_of : ℕ → ℕ) (is_wrong : ℕ → Type 0) (n i : ℕ) → ((j k : ℕ) → j < k → place_of j ≤ place_of k) →
    i < n → ((k : ℕ) → k < i → ¬ (is_wrong k)) → is_wrong i → IsLeast (λ a b. a ≤ b) (HasWrongRow n place_of is_wrong)
    (place_of i)
first_row place_of is_wrong n i order below none wrong =
    first_among (IsWrongRow place_of is_wrong) n i (place_of i)
    (λ j k a b less x y. let hx = x.here in let hy = y.here in let le = order j k less in omega arith)
    below
    (λ k less p row. none k less row.broken)
    (record { broken = record { here = refl; broken = wrong }; least = λ q row. let here = row.here in omega arith })

-- where no entry is wrong the rule holds
pub no_row : (place_of : ℕ → ℕ) (is_wrong : ℕ → Type 0) (n : ℕ) → ((k : ℕ) → k < n → ¬ (is_wrong k)) →
    Nowhere (HasWrongRow n place_of is_wrong)
no_row place_of is_wrong n none = λ p w. none w.entry w.below w.broken.broken

-- a number of an entry of a list
pub index_of_get : {E : Type 0} (f : E → ℕ) (list : List E) (k : ℕ) (entry : E) → slice_get list k ≡ Some entry →
    slice_index (map f list) k ≡ f entry
index_of_get f list k entry h =
    get_or-map f list k entry 0 (slice_get_within list k entry h) ∙ ap f (get_or_from_slice_get list k entry entry h)

-- a part of a wrong length breaks its rule first, where no entry is before it
pub wrong_part : (formed : Type 0) (at : ℕ) (rows : ℕ → Type 0) → ¬ formed → ((p : ℕ) → rows p → at ≤ p) →
    IsLeast (λ a b. a ≤ b) (λ p. IsMalformedPart formed at p ⊎ rows p) at
wrong_part formed at rows not_formed after = record {
  broken = inl (refl, not_formed);
  least = λ q w. elim w [ inl x ↦ (let here = x.0 in omega arith) | inr y ↦ after q y ];
}

-- a part of the right length breaks its rule where an entry does
pub right_part : (formed : Type 0) (at : ℕ) (rows : ℕ → Type 0) (found : Option ℕ) → formed → LeastOrNone rows found →
    LeastOrNone (λ p. IsMalformedPart formed at p ⊎ rows p) found
right_part formed at rows found is h =
    least_same rows (λ p. IsMalformedPart formed at p ⊎ rows p) found (λ p y. inr y) (λ p w. elim w
    [ inl x ↦ absurd (x.1 is) | inr y ↦ y ]) h
