-- Lines of numbered entries, one entry after the other.
use Rattle.std.proofs.Common.{◌≡◌, ◌<◌, ◌≤◌, ◌+◌, ◌∙◌, ap, refl, ℕ, List, [], ◌∷◌, ◌++◌, length, take, get_or, Some}
use Rattle.std.proofs.Common.{append_assoc, arith}
use Rattle.std.specs.List.{slice_get}
use Rattle.std.proofs.lemmas.Option.{get_or_from_slice_get}
use Rattle.std.specs.List.{flat_map, enumerate_from}
use Rattle.std.proofs.lemmas.List.{take_more, take_all, append-nil}
use Rattle.std.proofs.lemmas.List.FromFn.{length-enumerate_from, get_or-enumerate_from}
use Rattle.std.proofs.lemmas.Grind.{flat_map-append}

-- a text goes on by the lines of the next entry
pub numbered_on : {X : Type 0} (f : ℕ × X → List ℕ) (xs : List X) (i : ℕ) (d x : X) (start text more : List ℕ) →
    i < length xs → get_or xs i d ≡ x → text ≡ start ++ flat_map f (take i (enumerate_from 0 xs)) →
    more ≡ text ++ f (i, x) →
    more ≡ start ++ flat_map f (take (i + 1) (enumerate_from 0 xs))
numbered_on f xs i d x start text more h here t m =
    let long : i < length (enumerate_from 0 xs) = omega (arith, length-enumerate_from 0 xs) in
    let zero_more : 0 + i ≡ i = omega arith in
    let entry =
    get_or-enumerate_from 0 xs i (i, d) h ∙ (ap (λ n. (n, get_or xs i d)) zero_more ∙ ap (λ y. (i, y)) here) in
    let longer =
    take_more (enumerate_from 0 xs) i (i, d) long ∙ ap (λ e. take i (enumerate_from 0 xs) ++ e ∷ []) entry in
    rw (
      longer,
      m,
      t,
      flat_map-append f (take i (enumerate_from 0 xs)) ((i, x) ∷ []),
      append_assoc,
      append-nil (f (i, x)),
    ) refl

-- where all entries are written the text has the lines of all
pub numbered_all : {X : Type 0} (f : ℕ × X → List ℕ) (xs : List X) (i : ℕ) (start text : List ℕ) →
    length xs ≤ i → text ≡ start ++ flat_map f (take i (enumerate_from 0 xs)) →
    text ≡ start ++ flat_map f (enumerate_from 0 xs)
numbered_all f xs i start text h t =
    let all : take i (enumerate_from 0 xs) ≡ enumerate_from 0 xs =
    take_all i (enumerate_from 0 xs) (omega (arith, length-enumerate_from 0 xs)) in
    t ∙ ap (λ es. start ++ flat_map f es) all

-- the same of entries that have no numbers
pub listed_on : {X : Type 0} (f : X → List ℕ) (xs : List X) (i : ℕ) (x : X) (start text more : List ℕ) →
    i < length xs → slice_get xs i ≡ Some x → text ≡ start ++ flat_map f (take i xs) → more ≡ text ++ f x →
    more ≡ start ++ flat_map f (take (i + 1) xs)
listed_on f xs i x start text more h here t m =
    let longer = take_more xs i x h ∙ ap (λ e. take i xs ++ e ∷ []) (get_or_from_slice_get xs i x x here) in
    rw (longer, m, t, flat_map-append f (take i xs) (x ∷ []), append_assoc, append-nil (f x)) refl
