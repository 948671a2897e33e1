-- Characters of units, one by one.
use Rattle.std.proofs.Common.{◌≡◌, ℕ, true, false, List, [], ◌∷◌, refl}
use Rattle.text_codes.specs.Shown.{is_pair, pair_code}
use Rattle.field_links.specs.Characters.{character_alone, characters}

-- the last unit
pub characters-last : (xs ys : List ℕ) (unit : ℕ) → xs ≡ unit ∷ ys → ys ≡ [] → characters xs ≡ character_alone unit ∷
    characters ys
unfolding characters
characters-last xs ys unit is none = rw (is, none) refl

-- a unit that is in no pair with the next one
pub characters-alone : (xs ys zs : List ℕ) (first second : ℕ) → xs ≡ first ∷ ys → ys ≡ second ∷ zs →
    is_pair first second ≡ false → characters xs ≡ character_alone first ∷ characters ys
unfolding characters
characters-alone xs ys zs first second is next e = rw (is, next, e) refl

-- a pair
pub characters-pair : (xs ys zs : List ℕ) (first second : ℕ) → xs ≡ first ∷ ys → ys ≡ second ∷ zs →
    is_pair first second ≡ true → characters xs ≡ pair_code first second ∷ characters zs
unfolding characters
characters-pair xs ys zs first second is next e = rw (is, next, e) refl
