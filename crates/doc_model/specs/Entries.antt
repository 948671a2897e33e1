-- Lists of what is at the CPs of a text: a CP, and what is there.
use Rattle.std.specs.Prelude.{ℕ, ◌==◌, ◌<◌, ◌≡◌, List, Option, Some, option_map, slice_get}
use Rattle.std.specs.List.{find}

-- what is at a CP, where something does
abbrev pub entry_at_cp : {A : Type 0} → List (ℕ × A) → ℕ → Option A
entry_at_cp entries cp = option_map (λ entry. entry.1) (find (λ entry. entry.0 == cp) entries)

-- the CPs ascend
abbrev pub AreCpsAscending : {A : Type 0} → List (ℕ × A) → Type 0
AreCpsAscending {A = A} entries =
    (i j : ℕ) (one other : ℕ × A) → i < j → slice_get entries i ≡ Some one → slice_get entries j ≡ Some other →
    one.0 < other.0
