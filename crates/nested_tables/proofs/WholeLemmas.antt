-- Tables are whole.
use Rattle.std.proofs.Common.{◌≡◌, ◌∙◌, ℕ, ◌+◌, Bool, true, false, List, [], ◌∷◌, length, Option, Some, None, refl, sym}
use Rattle.std.proofs.Common.{ap, subst, arith, inl, inr}
use Rattle.std.specs.Prelude.{if◌then◌else◌}
use Rattle.std.specs.List.{take_while}
use Rattle.std.proofs.lemmas.Bool.{cases_Bool}
use Rattle.std.proofs.lemmas.List.Sums.{take_while-cons}
use Rattle.std.proofs.lemmas.Option.{same_Some}
use Rattle.nested_tables.specs.declared.depths.Depth.{Depth}
use Rattle.nested_tables.specs.declared.walk.NestedPlace.{NestedPlace}
use Rattle.nested_tables.specs.Laws.{IsRowEnded, TablesAreWhole}
use Rattle.nested_tables.specs.Tables.{ends_row, first_of, is_whole_table, reaches_depth, keeps_row, own_place}
use Rattle.nested_tables.specs.Tables.{place_by, walk_of}
use Rattle.nested_tables.specs.Tables.{whole_in}

-- those that go on up to here
run_of : (goes_on : Depth → Bool) (before : List Depth) → first_of goes_on before + length (take_while goes_on before) ≡
    length before
run_of goes_on [] = refl
run_of goes_on (paragraph ∷ before) =
    let rest = run_of goes_on before in
    let first : Bool → ℕ = λ b. if b then first_of goes_on before else length before + 1 in
    let run : Bool → List Depth = λ b. if b then paragraph ∷ take_while goes_on before else [] in
    ap (λ (xs : List Depth). first (goes_on paragraph) + length xs) (take_while-cons goes_on paragraph before)
    ∙ (elim (goes_on paragraph) as (λ (b : Bool). first b + length (run b) ≡ length (paragraph ∷ before))
    [ true ↦ omega (arith, rest) | false ↦ omega arith ])

-- a row ends with the last paragraph of a whole table
whole_ends : (depth : ℕ) (first : Depth) (more : List Depth) → is_whole_table depth (ends_row depth first) more ≡ true →
    IsRowEnded depth first (take_while (reaches_depth depth) more)
unfolding is_whole_table
whole_ends depth first [] is = record { last = first; there = refl; ends = is }
whole_ends depth first (next ∷ more) is =
    let run : Bool → List Depth = λ b. if b then next ∷ take_while (reaches_depth depth) more else [] in
    let whole : Bool → Bool = λ b. if b then is_whole_table depth (ends_row depth next) more else ends_row depth first
    in
    let front : take_while (reaches_depth depth) (next ∷ more) ≡ run (reaches_depth depth next) =
    take_while-cons (reaches_depth depth) next more in
    elim (cases_Bool (reaches_depth depth next)) [
      | inl within ↦
          let rest = whole_ends depth next more (sym (ap whole within) ∙ is) in
          subst (λ (xs : List Depth). IsRowEnded depth first xs) (sym (front ∙ ap run within))
          (record { last = rest.last; there = rest.there; ends = rest.ends })
      | inr out ↦
          subst (λ (xs : List Depth). IsRowEnded depth first xs) (sym (front ∙ ap run out))
          (record { last = first; there = refl; ends = sym (ap whole out) ∙ is })
    ]

whole_deep : (within whole : Bool) → (if within then Some whole else None) ≡ Some true → within ≡ true
whole_deep true whole is = refl
whole_deep false whole is = absurd (cc (is))

whole_is : (within whole : Bool) → (if within then Some whole else None) ≡ Some true → whole ≡ true
whole_is true whole is = same_Some whole true is
whole_is false whole is = absurd (cc (is))

place_whole : (whole : Option Bool) (own place : NestedPlace) → place_by whole own ≡ Some place → whole ≡ Some true
place_whole None own place is = absurd (cc (is))
place_whole (Some true) own place is = refl
place_whole (Some false) own place is = absurd (cc (is))

place_is : (whole : Option Bool) (own place : NestedPlace) → place_by whole own ≡ Some place → own ≡ place
place_is None own place is = absurd (cc (is))
place_is (Some true) own place is = same_Some own place is
place_is (Some false) own place is = absurd (cc (is))

pub all_whole : TablesAreWhole
all_whole depth before paragraph more place is =
    let own = own_place depth (walk_of depth before) paragraph in
    let within = reaches_depth depth paragraph in
    let ended = is_whole_table depth (ends_row depth paragraph) more in
    let whole : whole_in depth paragraph more ≡ Some true = place_whole (whole_in depth paragraph more) own place is in
    let same : own ≡ place = place_is (whole_in depth paragraph more) own place is in
    record {
      deep = whole_deep within ended whole;
      table =
          subst (λ (p : NestedPlace). p.table + length (take_while (reaches_depth depth) before) ≡ length before) same
          (run_of (reaches_depth depth) before);
      row =
          subst (λ (p : NestedPlace). p.row + length (take_while (keeps_row depth) before) ≡ length before) same
          (run_of (keeps_row depth) before);
      ends = whole_ends depth paragraph more (whole_is within ended whole);
    }
