-- A number goes by the counts of nine levels alone.
use Rattle.std.proofs.Common.{◌≡◌, ℕ, ◌+◌, ◌-◌, ◌*◌, ◌<◌, true, false, cond, List, [], ◌∷◌, ◌++◌, take, drop, Option}
use Rattle.std.proofs.Common.{Some, None, refl, sym, ap, ◌∙◌, subst, arith, get_or-take, get_or-drop}
use Rattle.std.specs.Prelude.{nat_lt, nat_le, slice_get, slice_index, slice_range}
use Rattle.std.proofs.lemmas.Bool.{ltb-true}
use Rattle.std.specs.List.{flat_map}
use Rattle.list_numbers.specs.declared.number_kind.NumberKind.{NumberKind}
use Rattle.list_numbers.specs.declared.number_kind.NumberKind.TheVariants.{Decimal, Roman, Letters, Bullet, Nothing}
use Rattle.list_numbers.specs.declared.level.Level.{Level}
use Rattle.list_numbers.specs.declared.list_format.ListFormat.{ListFormat}
use Rattle.list_numbers.specs.Numbers.{level_number, placed_unit, level_units, units_of_level, number_units, units_in}
use Rattle.list_numbers.specs.Counters.{counter, HaveCounted}
use Rattle.std.proofs.Common.{length}
use Rattle.list_numbers.specs.declared.list_place.ListPlace.{ListPlace}
use Rattle.list_numbers.specs.Counts.{count_at}

-- two counts are the same for the nine levels
abbrev pub AreAlike : (ℕ → ℕ) → (ℕ → ℕ) → Type 0
AreAlike one other = (level : ℕ) → nat_lt level 9 ≡ true → one level ≡ other level

flat_map_alike : (f g : ℕ → List ℕ) → ((x : ℕ) → f x ≡ g x) → (xs : List ℕ) → flat_map f xs ≡ flat_map g xs
flat_map_alike f g same [] = refl
flat_map_alike f g same (x ∷ xs) = ap (λ l. l ++ flat_map f xs) (same x) ∙ ap (λ l. g x ++ l) (flat_map_alike f g same
    xs)

placed_alike : (levels : List Level) (own : ℕ) (f g : ℕ → ℕ) → AreAlike f g → (unit : ℕ) → placed_unit levels own f
    unit ≡ placed_unit levels own g unit
placed_alike levels own f g same unit = elim (nat_lt unit 9) as (λ b. nat_lt unit 9 ≡ b →
    cond b (cond (nat_le unit own) (level_number (slice_get levels unit) (f unit)) []) (unit ∷ [])
    ≡ cond b (cond (nat_le unit own) (level_number (slice_get levels unit) (g unit)) []) (unit ∷ [])) [
      | true ↦ λ e. ap (λ n. cond (nat_le unit own) (level_number (slice_get levels unit) n) []) (same unit e)
      | false ↦ λ e. refl
    ] refl

level_alike : (kind : NumberKind) (levels : List Level) (own : ℕ) (f g : ℕ → ℕ) (text : List ℕ) → AreAlike f g →
    level_units kind levels own f text ≡ level_units kind levels own g text
level_alike Decimal levels own f g text same =
    flat_map_alike (placed_unit levels own f) (placed_unit levels own g) (placed_alike levels own f g same) text
level_alike (Roman case) levels own f g text same =
    flat_map_alike (placed_unit levels own f) (placed_unit levels own g) (placed_alike levels own f g same) text
level_alike (Letters case) levels own f g text same =
    flat_map_alike (placed_unit levels own f) (placed_unit levels own g) (placed_alike levels own f g same) text
level_alike Bullet levels own f g text same = refl
level_alike Nothing levels own f g text same = refl

option_alike : (level : Option Level) (levels : List Level) (own : ℕ) (f g : ℕ → ℕ) → AreAlike f g →
    units_of_level level levels own f ≡ units_of_level level levels own g
option_alike None levels own f g same = refl
option_alike (Some level) levels own f g same = level_alike level.kind levels own f g level.text same

pub number_alike : (levels : List Level) (own : ℕ) (f g : ℕ → ℕ) → AreAlike f g → number_units levels own f ≡
    number_units levels own g
number_alike levels own f g same = option_alike (slice_get levels own) levels own f g same

-- the counters of a list
part_alike : (counts : List ℕ) (list level : ℕ) → level < 9 → slice_index (slice_range counts (9 * list) (9 * list + 9))
    level ≡ counter counts list level
part_alike counts list level low =
    let size : 9 * list + 9 - 9 * list ≡ 9 = omega arith in
    subst (λ n. slice_index (take n (drop (9 * list) counts)) level ≡ counter counts list level) (sym size)
    (get_or-take 9 (drop (9 * list) counts) level 0 low ∙ get_or-drop (9 * list) counts level 0)

-- the number at a place by the counters of its list
pub number_by_counters : (lists : List ListFormat) (list : ListFormat) (index own : ℕ) (counts units : List ℕ) →
    slice_get lists index ≡ Some list → units ≡ number_units list.levels own (λ level. slice_index (slice_range counts
    (9 * index) (9 * index + 9)) level) → units ≡ units_in (slice_get lists index) own (counter counts index)
number_by_counters lists list index own counts units there is =
    is ∙ (number_alike list.levels own (λ level. slice_index (slice_range counts (9 * index) (9 * index + 9)) level)
    (counter counts index) (λ level e. part_alike counts index level (ltb-true level 9 e))
    ∙ ap (λ o. units_in o own (counter counts index)) (sym there))

units_alike : (list : Option ListFormat) (own : ℕ) (f g : ℕ → ℕ) → AreAlike f g →
    units_in list own f ≡ units_in list own g
units_alike None own f g same = refl
units_alike (Some list) own f g same = number_alike list.levels own f g same

-- counters that have counted the places give the number there
pub number_by_counts : (lists : List ListFormat) (place : ListPlace) (places : List (Option ListPlace))
    (counts units : List ℕ) → HaveCounted places (length lists) counts → place.list < length lists →
    units ≡ units_in (slice_get lists place.list) place.level (counter counts place.list) →
    units ≡ units_in (slice_get lists place.list) place.level (count_at places place.list)
number_by_counts lists place places counts units h low is =
    is ∙ units_alike (slice_get lists place.list) place.level (counter counts place.list) (count_at places place.list)
    (λ level e. (h.each place.list level low (ltb-true level 9 e)).0)
