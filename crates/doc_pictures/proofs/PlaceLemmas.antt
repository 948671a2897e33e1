-- The places of a text, item by item.
use Rattle.std.proofs.Common.{◌≡◌, ◌∙◌, ℕ, ◌+◌, ◌≢◌, List, [], ◌∷◌, ◌++◌, map, take, sym, ap, subst}
use Rattle.std.proofs.Common.{append_assoc, arith, Bool, true, false, Option, Some, None}
use Rattle.std.specs.Prelude.{◌==◌, slice_get, slice_index, if◌then◌else◌}
use Rattle.std.specs.List.{cons_option, filter_map, flat_map}
use Rattle.std.proofs.lemmas.Bool.Decides.{nat_tests}
use Rattle.std.proofs.lemmas.Option.{get_or_from_slice_get}
use Rattle.std.proofs.lemmas.List.{flat_map_more}
use Rattle.std.proofs.lemmas.List.Elements.{filter_map-append}
use Rattle.doc_bits.proofs.Public.{get-map, take_step}
use Rattle.doc_model.specs.declared.item.Item.{Item}
use Rattle.doc_columns.specs.declared.walk.Parts.{Parts}
use Rattle.doc_columns.specs.Walks.{items_in, AreFullParts}
use Rattle.doc_columns.proofs.Public.{units_are}
use Rattle.char_formats.specs.Locations.{location_in}
use Rattle.doc_pictures.specs.Places.{picture_place, places_in}

-- the unit of an item is in the column
pub unit-there : (parts : Parts) → AreFullParts parts → (i : ℕ) (item : Item) → slice_get (items_in parts) i ≡ Some item
    →
    item.unit ≡ slice_index parts.units.now i
unit-there parts are i item here =
    let got : slice_get parts.units.now i ≡ Some item.unit =
    subst (λ (units : List ℕ). slice_get units i ≡ Some item.unit) (units_are parts are)
    (get-map (λ (item : Item). item.unit) (items_in parts) i item here) in
    sym (get_or_from_slice_get parts.units.now i item.unit 0 got)

-- an item of another unit names no place
not-one : (unit : ℕ) → unit ≢ 0x01 → (unit == 0x01) ≡ false
not-one unit other = grind (arith, nat_tests)

is-one : (unit : ℕ) → unit ≡ 0x01 → (unit == 0x01) ≡ true
is-one unit one = grind (arith, nat_tests)

pub no-place : (item : Item) (unit : ℕ) → item.unit ≡ unit → unit ≢ 0x01 → None ≡ picture_place item
no-place item unit is other =
    sym (ap (λ (b : Bool). if b then location_in item.chp else None) (ap (λ (n : ℕ). n == 0x01) is ∙ not-one unit other))

-- the character of a picture names that of its properties
pub its-place : (item : Item) (unit : ℕ) → item.unit ≡ unit → unit ≡ 0x01 → location_in item.chp ≡ picture_place item
its-place item unit is one =
    sym (ap (λ (b : Bool). if b then location_in item.chp else None) (ap (λ (n : ℕ). n == 0x01) is ∙ is-one unit one))

-- one item more
pub text-on : (first now after : List ℕ) (items : List Item) (i : ℕ) (item : Item) (place : Option ℕ) →
    slice_get items i ≡ Some item → now ≡ first ++ places_in (take i items) → place ≡ picture_place item →
    after ≡ now ++ cons_option place [] → after ≡ first ++ places_in (take (i + 1) items)
text-on first now after items i item place here is names put =
    put
    ∙ ap (λ (p : Option ℕ). now ++ cons_option p []) names
    ∙ ap (λ (front : List ℕ). front ++ cons_option (picture_place item) []) is
    ∙ append_assoc first (places_in (take i items)) (cons_option (picture_place item) [])
    ∙ ap (λ (rest : List ℕ). first ++ rest)
    (sym (filter_map-append picture_place (take i items) (item ∷ []))
    ∙ ap places_in (sym (take_step items i item here)))

-- one text more
pub texts-on : (first now after : List ℕ) (texts : List (List Item)) (k : ℕ) (text : List Item) →
    slice_get texts k ≡ Some text → now ≡ first ++ flat_map places_in (take k texts) → after ≡ now ++ places_in text →
    after ≡ first ++ flat_map places_in (take (k + 1) texts)
texts-on first now after texts k text here is put =
    put
    ∙ ap (λ (front : List ℕ). front ++ places_in text) is
    ∙ flat_map_more places_in first (take k texts) text
    ∙ ap (λ (front : List (List Item)). first ++ flat_map places_in front) (sym (take_step texts k text here))
