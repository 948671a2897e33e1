-- Each place is at one of nine levels of a list that is there.
use Rattle.std.proofs.Common.{◌≡◌, ℕ, ◌<◌, true, false, Bool, cond, List, length, map, Option, Some, None}
use Rattle.std.proofs.Common.{refl, subst, arith}
use Rattle.std.specs.Prelude.{slice_get, nat_le}
use Rattle.std.proofs.lemmas.Bool.{leb-true}
use Rattle.std.proofs.lemmas.Option.{same_Some, none-some, slice_get_within}
use Rattle.doc_bits.proofs.Public.{from_map}
use Rattle.list_numbers.specs.declared.list_format.ListFormat.{ListFormat}
use Rattle.list_numbers.specs.declared.list_place.ListPlace.{ListPlace}
use Rattle.list_numbers.specs.declared.mark_values.MarkValues.{MarkValues}
use Rattle.list_numbers.specs.Places.{named_level, level_in, list_place_at, list_place_in, place_in_entry}
use Rattle.list_numbers.specs.Places.{first_list, used_list, list_place}
use Rattle.list_numbers.specs.Numbers.{AreFit}

named_low : (ilvl : Option ℕ) (level : ℕ) → named_level ilvl ≡ Some level → level < 9
named_low None level e = let zero_is = same_Some 0 level e in omega arith
named_low (Some named) level e = elim (nat_le named 8) as (λ b. nat_le named 8 ≡ b → cond b (Some named) None ≡ Some
    level → level < 9) [
      | true ↦ λ low is.
          let le = leb-true named 8 low in
          let same = same_Some named level is in
          omega arith
      | false ↦ λ high is. absurd (none-some level is)
    ] refl e

level_low : (simple : Bool) (ilvl : Option ℕ) (level : ℕ) → cond simple (Some 0) (named_level ilvl) ≡ Some level →
    level < 9
level_low true ilvl level e = let zero_is = same_Some 0 level e in omega arith
level_low false ilvl level e = named_low ilvl level e

placed_fits : (list count : ℕ) (found : Option ℕ) (place : ListPlace) → list < count →
    ((level : ℕ) → found ≡ Some level → level < 9) → list_place_at list found ≡ Some place →
    (place.list < count) × (place.level < 9)
placed_fits list count None place low level e = absurd (none-some place e)
placed_fits list count (Some found) place low level e =
    let same = same_Some (record { list = list; level = found }) place e in
    subst (λ (p : ListPlace). (p.list < count) × (p.level < 9)) same (low, level found refl)

-- a list that is there
entry_fits : (lists : List ListFormat) (list : ℕ) (entry : Option ListFormat) (ilvl : Option ℕ) (place : ListPlace) →
    slice_get lists list ≡ entry → place_in_entry list entry ilvl ≡ Some place →
    (place.list < length lists) × (place.level < 9)
entry_fits lists list None ilvl place there e = absurd (none-some place e)
entry_fits lists list (Some format) ilvl place there e =
    placed_fits list (length lists) (level_in format ilvl) place (slice_get_within lists list format there)
    (λ level is. level_low format.simple ilvl level is) e

place_fits : (lists : List ListFormat) (list ilvl : Option ℕ) (place : ListPlace) →
    list_place_in lists list ilvl ≡ Some place → (place.list < length lists) × (place.level < 9)
place_fits lists None ilvl place e = absurd (none-some place e)
place_fits lists (Some list) ilvl place e = entry_fits lists list (slice_get lists list) ilvl place refl e

pub places_fit : (lists : List ListFormat) (uses : List ℕ) (values : List MarkValues) →
    AreFit lists (map (list_place lists uses) values)
places_fit lists uses values i place there =
    let own = from_map (list_place lists uses) values i (Some place) there in
    place_fits lists (first_list lists (used_list uses own.0.ilfo)) own.0.ilvl place own.1.1
