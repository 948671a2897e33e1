-- CPs that are kept in order, and found.
use Rattle.std.proofs.Common.{◌≡◌, refl, ℕ, ◌+◌, ◌-◌, ◌*◌, ◌/◌, ◌<◌, ◌≤◌, ◌==◌, inl, inr, true, false}
use Rattle.std.proofs.Common.{List, [], ◌∷◌, length, get_or, arith}
use Rattle.std.specs.Prelude.{Result, Ok, Err, MatchResult}
use Rattle.std.specs.List.{list_any}
use Rattle.std.specs.List.Sorted.{IsSorted, IsBinarySearchResult}
use Rattle.std.specs.Ordering.{nat_cmp}
use Rattle.std.proofs.Math.Nat.{div-mul-le_self}
use Rattle.std.proofs.lemmas.Bool.{cases_lt}
use Rattle.std.proofs.lemmas.Bool.Decides.{nat_tests}
use Rattle.std.proofs.lemmas.List.Folds.{list_any_at, list_any_none}
use Rattle.std.proofs.lemmas.List.Sorted.{IsNonDecreasingBy-from_sort, searched}
use Rattle.std.proofs.lemmas.List.Elements.{All-from_get_or}
use Rattle.fib_versions.specs.declared.further.Further.TheVariants.{Comments, Endnotes, TextBoxes, HeaderTextBoxes}
use Rattle.doc_losses.specs.declared.cps.Marks.{Marks}
use Rattle.doc_losses.specs.Marks.{names_of_marks, NamesNoMark}

-- the CP at a place of a table is there
pub cp_room : (len size k : ℕ) → k < (len - 4) / (4 + size) → 4 * k + 4 ≤ len
cp_room len size k low =
    let room : (len - 4) / (4 + size) * (4 + size) ≤ len - 4 = div-mul-le_self (len - 4) (4 + size) in
    let count : ℕ = (len - 4) / (4 + size) in
    omega (arith, low, room)

-- what a search among numbers that rise says
abbrev pub IsSearched : List ℕ → ℕ → Result ℕ ℕ → Type 0
IsSearched xs x found =
    MatchResult found (λ i. (i < length xs) × (get_or xs i 0 ≡ x))
    (λ i. (i ≤ length xs) × ((k : ℕ) → k < i → get_or xs k 0 < x) × ((k : ℕ) → i ≤ k → k < length xs → x < get_or xs k 0))

pub is_searched : (xs : List ℕ) (x : ℕ) (found : Result ℕ ℕ) → IsSorted nat_cmp xs →
    IsBinarySearchResult (λ y. nat_cmp y x) xs found → IsSearched xs x found
is_searched xs x found sorted is =
    searched xs x found is (λ i j up low. IsNonDecreasingBy-from_sort (λ y. y) xs sorted i j 0 up low)

pub found_there : (xs : List ℕ) (x i : ℕ) → IsSearched xs x (Ok i) → list_any (λ named. named == x) xs ≡ true
found_there xs x i found =
    let same : get_or xs i 0 ≡ x = found.1 in
    let is : (get_or xs i 0 == x) ≡ true = grind (arith, nat_tests) in
    list_any_at (λ (named : ℕ). named == x) xs i 0 found.0 is

pub found_nowhere : (xs : List ℕ) (x i : ℕ) → IsSearched xs x (Err i) → list_any (λ named. named == x) xs ≡ false
found_nowhere xs x i found =
    list_any_none (λ (named : ℕ). named == x) xs
    (All-from_get_or (λ (named : ℕ). (named == x) ≡ false) xs 0 (λ k low. elim (cases_lt k i) [
      | inl before ↦ let less : get_or xs k 0 < x = found.1 k before in grind (arith, nat_tests)
      | inr behind ↦ let more : x < get_or xs k 0 = found.2 k behind low in grind (arith, nat_tests)
    ]))

nowhere : (cps : List ℕ) (cp : ℕ) → length cps ≡ 0 → list_any (λ named. named == cp) cps ≡ false
nowhere [] cp none = refl
nowhere (first ∷ cps) cp none = absurd (omega (arith, none))

-- where no CP is kept none is named
pub none_kept_named : (marks : Marks) → length marks.comments ≡ 0 → length marks.endnotes ≡ 0 →
    length marks.boxes ≡ 0 → length marks.head_boxes ≡ 0 → NamesNoMark (names_of_marks marks)
none_kept_named marks comments endnotes boxes heads Comments cp = nowhere marks.comments cp comments
none_kept_named marks comments endnotes boxes heads Endnotes cp = nowhere marks.endnotes cp endnotes
none_kept_named marks comments endnotes boxes heads TextBoxes cp = nowhere marks.boxes cp boxes
none_kept_named marks comments endnotes boxes heads HeaderTextBoxes cp = nowhere marks.head_boxes cp heads
