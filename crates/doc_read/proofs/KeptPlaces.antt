-- The place of a unit that ends a paragraph is among theirs.
use Rattle.std.proofs.Common.{◌≡◌, ◌∙◌, refl, ap, subst, ℕ, zero, suc, ◌<◌, Bool, true, false, List, [], ◌∷◌}
use Rattle.std.proofs.Common.{length, filter, arith}
use Rattle.std.specs.Prelude.{slice_index}
use Rattle.std.specs.List.{range_with_len}
use Rattle.std.proofs.lemmas.List.{length-map, get_or-map}
use Rattle.std.proofs.lemmas.List.FromFn.{length-range_with_len, get_or-range_with_len}
use Rattle.doc_parts.specs.declared.lists.Sed.{Sed}
use Rattle.file_rules.specs.Source.{DocSource}
use Rattle.file_rules.specs.FormatRules.{judged_units, judged_places, ends_paragraph, paragraph_ends}
use Rattle.file_rules.specs.FormatRules.{paragraph_end_places}

-- where a kept number is among those that are kept
IsKeptAt : (ℕ → Bool) → List ℕ → ℕ → ℕ → Type 0
IsKeptAt p xs y k = (k < length (filter p xs)) × (slice_index (filter p xs) k ≡ y)

kept_behind : (p : ℕ → Bool) (x : ℕ) (xs : List ℕ) (y k : ℕ) → IsKeptAt p xs y k → (b : Bool) → p x ≡ b →
    (n : ℕ) × IsKeptAt p (x ∷ xs) y n
unfolding IsKeptAt
kept_behind p x xs y k h true e =
    let kept : x ∷ filter p xs ≡ filter p (x ∷ xs) = rw e refl in
    let below = h.0 in
    let more : suc k < length (x ∷ filter p xs) = omega arith in
    (suc k, subst (λ l. (suc k < length l) × (slice_index l (suc k) ≡ y)) kept (more, h.1))
kept_behind p x xs y k h false e =
    let kept : filter p xs ≡ filter p (x ∷ xs) = rw e refl in
    (k, subst (λ l. (k < length l) × (slice_index l k ≡ y)) kept h)

kept_at : (p : ℕ → Bool) (xs : List ℕ) (i : ℕ) → i < length xs → p (slice_index xs i) ≡ true →
    (k : ℕ) × IsKeptAt p xs (slice_index xs i) k
unfolding IsKeptAt
kept_at p [] i below e = absurd (omega arith)
kept_at p (x ∷ xs) zero below e =
    let kept : x ∷ filter p xs ≡ filter p (x ∷ xs) = rw e refl in
    let some : zero < length (x ∷ filter p xs) = omega arith in
    (zero, subst (λ l. (zero < length l) × (slice_index l zero ≡ x)) kept (some, refl))
kept_at p (x ∷ xs) (suc i) below e =
    let next = kept_at p xs i (omega arith) e in kept_behind p x xs (slice_index xs i) next.0 next.1 (p x) refl

-- the place of a unit that ends a paragraph is among theirs
pub paragraph_place : (source : DocSource) (sections : List Sed) (cp : ℕ) → cp < length (judged_units source) →
    ends_paragraph source sections cp ≡ true →
    (k : ℕ) × ((k < length (paragraph_end_places source sections)) × (slice_index (paragraph_end_places source sections)
    k ≡
    slice_index (judged_places source) cp))
unfolding IsKeptAt
paragraph_place source sections cp below ends =
    let n = length (judged_units source) in
    let all = range_with_len 0 n in
    let p = ends_paragraph source sections in
    let places = judged_places source in
    let at : slice_index all cp ≡ cp = get_or-range_with_len 0 n cp 0 below ∙ omega arith in
    let there : cp < length all = omega (arith, length-range_with_len 0 n) in
    let found = kept_at p all cp there (ap p at ∙ ends) in
    let k = found.0 in
    let within : k < length (paragraph_ends source sections) = found.1.0 in
    let place : slice_index (paragraph_end_places source sections) k ≡ slice_index places (slice_index (paragraph_ends
    source sections) k) = get_or-map (slice_index places) (paragraph_ends source sections) k 0 0 within in (
      k,
      (
        omega (arith, within, length-map (paragraph_ends source sections) (slice_index places)),
        place ∙ ap (slice_index places) (found.1.1 ∙ at),
      ),
    )
