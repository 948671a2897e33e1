-- Bytes that are put behind the first ones of a block.
use Rattle.std.proofs.Common.{◌≡◌, ℕ, ◌+◌, ◌≤◌, List, [], ◌∷◌, ◌++◌, length, take, slice_set, refl, ◌∙◌, append_assoc, arith}
use Rattle.std.proofs.lemmas.List.{length-set}
use Rattle.std.proofs.lemmas.Grind.{take-set_at}

-- two bytes are put behind the first ones
pub take-two_set : (xs : List ℕ) (n a b : ℕ) → n + 2 ≤ length xs →
    take (n + 2) (slice_set (slice_set xs n a) (n + 1) b) ≡ take n xs ++ a ∷ b ∷ []
take-two_set xs n a b h =
    let one : take (n + 1) (slice_set xs n a) ≡ take n xs ++ a ∷ [] = take-set_at xs n (n + 1) a refl
    (omega (arith, h)) in
    let two : take (n + 2) (slice_set (slice_set xs n a) (n + 1) b) ≡ take (n + 1) (slice_set xs n a) ++ b ∷ [] =
    take-set_at (slice_set xs n a) (n + 1) (n + 2) b (omega arith) (omega (arith, h, length-set xs n a)) in
    two ∙ rw (one, append_assoc) refl

-- three bytes are put behind the first ones
pub take-three_set : (xs : List ℕ) (n a b c : ℕ) → n + 3 ≤ length xs →
    take (n + 3) (slice_set (slice_set (slice_set xs n a) (n + 1) b) (n + 2) c) ≡ take n xs ++ a ∷ b ∷ c ∷ []
take-three_set xs n a b c h =
    let two : take (n + 2) (slice_set (slice_set xs n a) (n + 1) b) ≡ take n xs ++ a ∷ b ∷ [] = take-two_set xs n a b
    (omega (arith, h)) in
    let three : take (n + 3) (slice_set (slice_set (slice_set xs n a) (n + 1) b) (n + 2) c) ≡ take (n + 2)
    (slice_set (slice_set xs n a) (n + 1) b) ++ c ∷ [] = take-set_at (slice_set (slice_set xs n a) (n + 1) b) (n + 2)
    (n + 3) c (omega arith) (omega (arith, h, length-set xs n a, length-set (slice_set xs n a) (n + 1) b)) in
    three ∙ rw (two, append_assoc) refl
