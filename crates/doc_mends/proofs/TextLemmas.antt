-- Texts that become others, one after the other, and what is listed of them.
use Rattle.std.proofs.Common.{◌≡◌, ◌∙◌, ap, sym, refl, ℕ, zero, suc, ◌+◌}
use Rattle.std.proofs.Common.{List, [], ◌∷◌, ◌++◌, length, map, take, drop, arith, ◌≤◌, Some, slice_get, append_assoc}
use Rattle.std.proofs.lemmas.List.{length-map, length-take-le, take_all, drop_all, append-nil}
use Rattle.std.proofs.lemmas.List.{length-append, take-append-drop}
use Rattle.std.proofs.lemmas.Option.{slice_get_within}
use Rattle.doc_patch.specs.Changes.{changed_at}
use Rattle.run_lists.proofs.Public.{run_and_rest}
use Rattle.doc_patch.proofs.Public.{put_more}
use Rattle.doc_parts.proofs.Public.{map_next}

-- ---- one more

-- a map that changes no entry
pub same_map : {A : Type 0} (f : A → A) (xs : List A) → ((i : ℕ) (x : A) → slice_get xs i ≡ Some x → f x ≡ x) →
    map f xs ≡ xs
same_map f [] each = refl
same_map {A = A} f (x ∷ xs) each =
    ap (λ (y : A). y ∷ map f xs) (each zero x refl)
    ∙ ap (λ (t : List A). x ∷ t) (same_map f xs (λ i y is. each (suc i) y is))

-- ---- one text after the other

at_seam : {A : Type 0} (f : A → A) (front : List A) (x : A) (rest : List A) →
    changed_at (front ++ x ∷ rest) (length front) f ≡ front ++ f x ∷ rest
at_seam f [] x rest = refl
at_seam {A = A} f (y ∷ front) x rest =
    put_more f y (front ++ x ∷ rest) (length front) (slice_get (front ++ x ∷ rest) (length front))
    ∙ ap (λ (t : List A). y ∷ t) (at_seam f front x rest)

-- the entries before a place are others already, and the one there becomes another
pub put_next : {A : Type 0} (f : A → A) (front xs : List A) (k : ℕ) (x : A) → length front ≡ k →
    slice_get xs k ≡ Some x →
    changed_at (front ++ drop k xs) k f ≡ (front ++ f x ∷ []) ++ drop (k + 1) xs
put_next {A = A} f front xs k x len is =
    ap (λ (t : List A). changed_at (front ++ t) k f) (run_and_rest xs k x is)
    ∙ (ap (λ (n : ℕ). changed_at (front ++ x ∷ drop (k + 1) xs) n f) (sym len)
    ∙ (at_seam f front x (drop (k + 1) xs) ∙ sym (append_assoc front (f x ∷ []) (drop (k + 1) xs))))

-- ---- one text more of a map

mapped_front : {A : Type 0} (f : A → A) (xs : List A) (k : ℕ) → k ≤ length xs → length (map f (take k xs)) ≡ k
mapped_front f xs k low = length-map (take k xs) f ∙ length-take-le k xs low

pub put_mapped : {A : Type 0} (f : A → A) (xs : List A) (k : ℕ) (x : A) → slice_get xs k ≡ Some x →
    changed_at (map f (take k xs) ++ drop k xs) k f ≡ map f (take (k + 1) xs) ++ drop (k + 1) xs
put_mapped {A = A} f xs k x is =
    let low = slice_get_within xs k x is in
    put_next f (map f (take k xs)) xs k x (mapped_front f xs k (omega (arith, low))) is
    ∙ ap (λ (t : List A). t ++ drop (k + 1) xs) (sym (map_next f xs k x is))

pub all_mapped : {A : Type 0} (f : A → A) (xs : List A) (k : ℕ) → length xs ≤ k →
    map f (take k xs) ++ drop k xs ≡ map f xs
all_mapped {A = A} f xs k past =
    ap (λ (t : List A). map f t ++ drop k xs) (take_all k xs past)
    ∙ (ap (λ (t : List A). map f xs ++ t) (drop_all k xs past) ∙ append-nil (map f xs))

pub mapped_len : {A : Type 0} (f : A → A) (xs : List A) (k : ℕ) → length (map f (take k xs) ++ drop k xs) ≡ length xs
mapped_len f xs k =
    length-append (map f (take k xs)) (drop k xs)
    ∙ (ap (λ n. n + length (drop k xs)) (length-map (take k xs) f)
    ∙ (sym (length-append (take k xs) (drop k xs)) ∙ ap length (take-append-drop k xs)))
