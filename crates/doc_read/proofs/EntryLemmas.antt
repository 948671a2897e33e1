-- What is at a CP, where the CPs ascend.
use Rattle.std.proofs.Common.{◌≡◌, ◌≢◌, ◌∙◌, refl, sym, ap, ℕ, zero, suc, ◌<◌, true, List, [], ◌∷◌, length, map}
use Rattle.std.proofs.Common.{Some, None, slice_get, arith, inl, inr}
use Rattle.std.specs.Prelude.{slice_index, zip, is_some}
use Rattle.std.proofs.lemmas.Bool.{cases_eq}
use Rattle.doc_model.specs.Entries.{entry_at_cp}
use Rattle.doc_model.proofs.Public.{entry_here, entry_later}
use Rattle.doc_read.specs.Passing.{AreUp, IsNotAmong}

-- the CPs behind the first one ascend too
pub up_tail : (c : ℕ) (cps : List ℕ) → AreUp (c ∷ cps) → AreUp cps
up_tail c cps up i j lower below = up (suc i) (suc j) (omega arith) (omega arith)

-- the entry whose CP it is
pub entry_found : {A : Type 0} (cps : List ℕ) (values : List A) (cp k : ℕ) (x : A) → AreUp cps → k < length cps →
    slice_index cps k ≡ cp → slice_get values k ≡ Some x → entry_at_cp (zip cps values) cp ≡ Some x
entry_found [] values cp k x up below here there = absurd (omega arith)
entry_found (c ∷ cps) [] cp k x up below here there = absurd (cc (there))
entry_found (c ∷ cps) (v ∷ values) cp zero x up below here there = entry_here c cp v (zip cps values) here ∙ there
entry_found (c ∷ cps) (v ∷ values) cp (suc k) x up below here there =
    let first : c < slice_index cps k = up zero (suc k) (omega arith) below in
    let at : slice_index cps k ≡ cp = here in
    let other : c ≢ cp = λ e. omega (arith, e, at, first) in
    entry_later c cp v (zip cps values) other ∙ entry_found cps values cp k x (up_tail c cps up) (omega arith) here
    there

-- no entry has the CP
pub entry_none : {A : Type 0} (cps : List ℕ) (values : List A) (cp : ℕ) → IsNotAmong cps cp →
    entry_at_cp (zip cps values) cp ≡ None
entry_none [] values cp none = refl
entry_none (c ∷ cps) [] cp none = refl
entry_none (c ∷ cps) (v ∷ values) cp none =
    entry_later c cp v (zip cps values) (none zero (omega arith)) ∙ entry_none cps values cp (λ k below. none (suc k)
    (omega arith))

-- where something is at a CP, the CP is among those of the entries
pub entry_some : {A : Type 0} (cps : List ℕ) (values : List A) (cp : ℕ) →
    is_some (entry_at_cp (zip cps values) cp) ≡ true → (k : ℕ) × ((k < length cps) × (slice_index cps k ≡ cp))
entry_some [] values cp e = absurd (cc (e))
entry_some (c ∷ cps) [] cp e = absurd (cc (e))
entry_some (c ∷ cps) (v ∷ values) cp e = elim (cases_eq c cp) [
  | inl here ↦ (zero, (omega arith, here))
  | inr other ↦
      let next = entry_some cps values cp (ap is_some (sym (entry_later c cp v (zip cps values) other)) ∙ e) in
      let below = next.1.0 in
      (suc next.0, (omega arith, next.1.1))
]

-- entries are their CPs beside their values
zip_parts : {A : Type 0} (entries : List (ℕ × A)) →
    zip (map (λ entry. entry.0) entries) (map (λ entry. entry.1) entries) ≡ entries
zip_parts [] = refl
zip_parts (entry ∷ entries) = ap (λ l. entry ∷ l) (zip_parts entries)

pub entry_of_parts : {A : Type 0} (entries : List (ℕ × A)) (cps : List ℕ) (values : List A) (cp : ℕ) →
    cps ≡ map (λ entry. entry.0) entries → values ≡ map (λ entry. entry.1) entries →
    entry_at_cp (zip cps values) cp ≡ entry_at_cp entries cp
entry_of_parts entries cps values cp cps_are values_are =
    ap (λ l. entry_at_cp (zip l values) cp) cps_are ∙ (ap (λ l. entry_at_cp (zip (map (λ entry. entry.0) entries) l) cp)
    values_are ∙ ap (λ l. entry_at_cp l cp) (zip_parts entries))
