-- The first entry of a list, from a place on, that passes a test.
use Rattle.std.proofs.Common.{◌≡◌, ◌∙◌, ap, ℕ, ◌+◌, ◌-◌, ◌<◌, ◌≤◌, Bool, true, false, List, length, drop, get_or}
use Rattle.std.proofs.Common.{arith, length-drop}
use Rattle.std.specs.List.{position_or_len}
use Rattle.std.proofs.lemmas.List.{get_or-drop}
use Rattle.std.proofs.lemmas.List.Sums.{position_or_len_is}

pub first_is : {A : Type 0} (p : A → Bool) (entries : List A) (at end : ℕ) (d : A) → at ≤ end → end ≤ length entries →
    ((k : ℕ) → at ≤ k → k < end → p (get_or entries k d) ≡ false) → (end < length entries → p (get_or entries end d) ≡
    true) → end ≡ at + position_or_len p (drop at entries)
first_is p entries at end d after within before here =
    let len : length (drop at entries) ≡ length entries - at = length-drop at entries in
    let n : at + (end - at) ≡ end = omega arith in
    let is : position_or_len p (drop at entries) ≡ end - at =
    position_or_len_is p (drop at entries) (end - at) d (omega (arith, len))
    (λ k less. ap p (get_or-drop at entries k d) ∙ before (at + k) (omega arith) (omega (arith, less)))
    (λ less. ap p (get_or-drop at entries (end - at) d ∙ ap (λ i. get_or entries i d) n) ∙ here (omega (
      arith,
      len,
      less,
    ))) in
    omega (arith, is, n)
