-- On counts that rise in one part of a call after the other.
use Rattle.std.proofs.Common.{ℕ, ◌+◌, ◌≤◌, arith}
use Rattle.std.proofs.Math.Nat.{min-le_left, min-le_right, le-min, le_trans}
use Rattle.doc_outer.specs.Counts.{Rose, CountGoesOn, raised, last_count}

-- a count that rose later rose
pub Rose-after : (first mid now : ℕ) → CountGoesOn first mid → Rose mid now → Rose first now
Rose-after first mid now on rose =
    let up = on.not_fallen in
    let least = min-le_left (first + 1) last_count in
    let step : raised first ≤ raised mid = le-min (omega (arith, up, least)) (min-le_right (first + 1) last_count) in
    le_trans step rose

pub count_stays : (n : ℕ) → CountGoesOn n n
count_stays n = record { not_fallen = omega arith; not_beyond = λ h. h }

pub count_on : (a b c : ℕ) → CountGoesOn a b → CountGoesOn b c → CountGoesOn a c
count_on a b c one other = record {
  not_fallen = (let p = one.not_fallen in let q = other.not_fallen in omega (arith, p, q));
  not_beyond = λ h. other.not_beyond (one.not_beyond h);
}
