-- The Prms that are kept beside lists.
use Rattle.std.proofs.Common.{◌≡◌, ◌≢◌, ◌⊎◌, ℕ, List, [], ◌∷◌, Bool, true, false, cond, Some, refl, inl, inr, sym, ap}
use Rattle.std.proofs.Common.{subst, ◌∙◌}
use Rattle.std.specs.Ordering.{is_eq, nat_cmp}
use Rattle.std.specs.declared.cmp.Ordering.{Ordering}
use Rattle.std.specs.declared.cmp.Ordering.TheVariants.{Less, Equal, Greater}
use Rattle.std.specs.Cmp.Lexicographic.{slice_cmp}
use Rattle.std.specs.Map.{lookup}
use Rattle.std.specs.BTreeMap.{insert_entry}
use Rattle.std.proofs.lemmas.Map.Lookups.{exact_bytes}
use Rattle.piece_table.specs.PrcLists.{prm_of_list, PutsPrm}
use Rattle.prop_map.proofs.Public.{same_bytes}

-- a key of the same bytes is found
key_found : (list key : List ℕ) → list ≡ key → is_eq (slice_cmp nat_cmp list key) ≡ true
key_found list key e = subst (λ k. is_eq (slice_cmp nat_cmp list k) ≡ true) e (ap is_eq (same_bytes list))

-- and no other
key_missed : (list key : List ℕ) → list ≢ key → is_eq (slice_cmp nat_cmp list key) ≡ false
key_missed list key apart = elim (slice_cmp nat_cmp list key) as (λ o. slice_cmp nat_cmp list key ≡ o →
    is_eq o ≡ false) [
      | Less ↦ λ e. refl
      | Equal ↦ λ e. absurd (apart (exact_bytes list key e))
      | Greater ↦ λ e. refl
    ] refl

-- bytes are the same or not
pub bytes_eq-cases : (a b : List ℕ) → (a ≡ b) ⊎ (a ≢ b)
bytes_eq-cases a b = elim (slice_cmp nat_cmp a b) as (λ o. slice_cmp nat_cmp a b ≡ o → (a ≡ b) ⊎ (a ≢ b)) [
  | Less ↦ λ e. inr (λ same. let equal : Less ≡ Equal = sym e ∙ (ap (λ l. slice_cmp nat_cmp a l) (sym same) ∙
      same_bytes a) in cc (equal))
  | Equal ↦ λ e. inl (exact_bytes a b e)
  | Greater ↦ λ e. inr (λ same. let equal : Greater ≡ Equal = sym e ∙ (ap (λ l. slice_cmp nat_cmp a l) (sym same) ∙
      same_bytes a) in cc (equal))
] refl

abbrev found : {K : Type 0} → (K → List ℕ) → List ℕ → K → Bool
found bytes list key = is_eq (slice_cmp nat_cmp list (bytes key))

abbrev order : {K : Type 0} → (K → List ℕ) → K → K → Ordering
order bytes x y = slice_cmp nat_cmp (bytes x) (bytes y)

put_here : {K : Type 0} (bytes : K → List ℕ) (entries : List (K × ℕ)) (key : K) (prm : ℕ) →
    lookup (found bytes (bytes key)) (insert_entry (order bytes) entries key prm) ≡ Some prm
put_here bytes [] key prm = rw (key_found (bytes key) (bytes key) refl) refl
put_here bytes (e ∷ entries) key prm = elim (order bytes key e.0) as (λ o. order bytes key e.0 ≡ o →
    lookup (found bytes (bytes key)) (insert_entry (order bytes) (e ∷ entries) key prm) ≡ Some prm) [
      | Less ↦ λ is. rw (is, key_found (bytes key) (bytes key) refl) refl
      | Equal ↦ λ is. rw (is, ap is_eq is) refl
      | Greater ↦ λ is. rw (is, ap is_eq is) (put_here bytes entries key prm)
    ] refl

put_others : {K : Type 0} (bytes : K → List ℕ) (entries : List (K × ℕ)) (key : K) (prm : ℕ) (other : List ℕ) →
    other ≢ bytes key → lookup (found bytes other) (insert_entry (order bytes) entries key prm) ≡ lookup (found bytes
    other) entries
put_others bytes [] key prm other apart = rw (key_missed other (bytes key) apart) refl
put_others bytes (e ∷ entries) key prm other apart = elim (order bytes key e.0) as (λ o. order bytes key e.0 ≡ o →
    lookup (found bytes other) (insert_entry (order bytes) (e ∷ entries) key prm) ≡ lookup (found bytes other)
    (e ∷ entries)) [
      | Less ↦ λ is. rw (is, key_missed other (bytes key) apart) refl
      | Equal ↦ λ is.
          let same : bytes key ≡ bytes e.0 = exact_bytes (bytes key) (bytes e.0) is in
          rw (is, key_missed other (bytes e.0) (λ z. apart (z ∙ sym same))) refl
      | Greater ↦ λ is.
          let same = put_others bytes entries key prm other apart in
          rw is (ap (λ rest. cond (found bytes other e.0) (Some e.1) rest) same)
    ] refl

pub puts_prm : {K : Type 0} (bytes : K → List ℕ) (old new : List (K × ℕ)) (key : K) (list : List ℕ) (prm : ℕ) →
    bytes key ≡ list → new ≡ insert_entry (order bytes) old key prm → PutsPrm (prm_of_list old bytes) (prm_of_list new
    bytes) list prm
puts_prm bytes old new key list prm is grown =
    subst (λ l. PutsPrm (prm_of_list old bytes) (prm_of_list new bytes) l prm) is
    (subst (λ es. PutsPrm (prm_of_list old bytes) (prm_of_list es bytes) (bytes key) prm) (sym grown)
    (record {
      here = put_here bytes old key prm;
      others = λ other apart. put_others bytes old key prm other
          apart;
    }))
