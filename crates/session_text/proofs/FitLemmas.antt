-- The modifiers of places on which one more modifier acts: they fit the pages, and are not longer than both.
use Rattle.std.specs.Prelude.{slice_range, List, ℕ, IsSome}
use Rattle.std.specs.List.{All, AllZip}
use Rattle.std.specs.Option.{option_map, ForSome}
use Rattle.std.proofs.Common.{◌≡◌, ◌∙◌, ◌⊎◌, ◌++◌, ◌+◌, ◌-◌, ◌<◌, ◌≤◌, refl, sym, ap, subst, inl}
use Rattle.std.proofs.Common.{inr, Bool, false}
use Rattle.std.proofs.Common.{Option, Some, None, length, map, take, drop, arith}
use Rattle.std.proofs.lemmas.Option.{slice_get_within}
use Rattle.std.proofs.lemmas.List.Elements.{All-append}
use Rattle.doc_bits.specs.Together.{AreTogether}
use Rattle.doc_bits.proofs.Public.{All_at, All-from_slice_get, from_map, there_is}
use Rattle.prop_map.specs.declared.modifiers.Modifier.{Modifier}
use Rattle.prop_map.specs.Settings.{Properties}
use Rattle.prop_map.specs.Printing.{printed_list}
use Rattle.prop_map.specs.Modifiers.{no_modifier, printed_modifier, IsOver}
use Rattle.prop_map.proofs.Public.{over_is_not_longer, characters_are_not_longer, marks_are_not_longer}
use Rattle.prop_map.proofs.Public.{made_is_not_longer}
use Rattle.piece_table.specs.Piece.{UnitPlace}
use Rattle.piece_table.specs.Changes.{IsModifiedPlace, AreModified}
use Rattle.piece_table.specs.ClxRules.{FitsPages}
use Rattle.doc_model.specs.declared.item.Item.{Item}
use Rattle.doc_model.specs.declared.item.Mark.{Mark}
use Rattle.plain_doc.specs.RulesOfItems.{IsShortPap}
use Rattle.doc_patch.specs.Changes.{modified_item, modified_mark}
use Rattle.save_laws.specs.Places.{GivenUnit, IsMarkedAfter}
use Rattle.save_laws.specs.Slots.{Slot, shown, IsPlaceForSlot}
use Rattle.session_text.specs.EditSteps.{IsShortAfter}
use Rattle.session_text.proofs.TextLemmas.{All-front, All-back}
use Rattle.save_laws.proofs.Public.{zip_before, in_parts}
use Rattle.full_save.proofs.Public.{none_printed}

-- ---- one place

-- the properties of a mark that a modifier made
mark_fits : (modifier : Modifier) (before after : Option Mark) → IsMarkedAfter modifier before after → IsSome after →
    ForSome after (λ mark. IsShortPap mark.pap) → length (printed_list modifier.pap) ≤ 480
mark_fits modifier None None made some short = absurd (grind (arith, some))
mark_fits modifier None (Some new) made some short = absurd made
mark_fits modifier (Some old) None made some short = absurd made
mark_fits modifier (Some old) (Some new) made some short =
    let fits = short new refl in
    omega (arith, fits, marks_are_not_longer modifier old.pap new.pap made.1)

still_some : (by : Modifier) (mark : Option Mark) → IsSome mark → IsSome (option_map (modified_mark by) mark)
still_some by None some = absurd (grind (arith, some))
still_some by (Some mark) some = refl

-- the properties of marks are no longer where none are put over them
nothing_over : (over base new : Properties) → over ≡ no_modifier.pap → IsOver false over base new →
    length (printed_list new) ≤ length (printed_list base)
nothing_over over base new none is =
    omega (
      arith,
      over_is_not_longer false over base new is,
      ap (λ map. length (printed_list map)) none,
      none_printed,
    )

marks_fit : (Stands : ℕ → Bool → Type 0) (Gives : ℕ → Bool → GivenUnit → Type 0) (by : Modifier) (place made :
    UnitPlace)
    (item : Item) → FitsPages place.modifier → IsModifiedPlace by place made →
    IsPlaceForSlot Stands Gives made (shown (modified_item by item)) → IsShortAfter by item →
    (by.pap ≡ no_modifier.pap) ⊎ IsSome item.mark → length (printed_list made.modifier.pap) ≤ 480
marks_fit Stands Gives by place made item fits is placed short (inl none) =
    let before = fits.pap in
    omega (arith, before, nothing_over by.pap place.modifier.pap made.modifier.pap none is.modifier.pap)
marks_fit Stands Gives by place made item fits is placed short (inr some) =
    mark_fits made.modifier placed.before.mark (option_map (modified_mark by) item.mark) placed.after.mark
    (still_some by item.mark some) short.short.pap

place_fits : (Stands : ℕ → Bool → Type 0) (Gives : ℕ → Bool → GivenUnit → Type 0) (by : Modifier) (place made :
    UnitPlace)
    (item : Item) → FitsPages place.modifier → IsModifiedPlace by place made →
    IsPlaceForSlot Stands Gives made (shown (modified_item by item)) → IsShortAfter by item → FitsPages made.modifier
place_fits Stands Gives by place made item fits is placed short =
    let chp = short.short.chp in
    record {
      chp =
          omega (
            arith,
            chp,
            characters_are_not_longer made.modifier placed.before.chp (modified_item by item).chp
                placed.after.characters,
          );
      pap = marks_fit Stands Gives by place made item fits is placed short short.marked;
    }

-- ---- places of a range

pub range_fits : (Stands : ℕ → Bool → Type 0) (Gives : ℕ → Bool → GivenUnit → Type 0) (by : Modifier)
    (places made : List UnitPlace) (items : List Item) → All (λ place. FitsPages place.modifier) places →
    AllZip (IsModifiedPlace by) places made →
    AreTogether (IsPlaceForSlot Stands Gives) made (map shown (map (modified_item by) items)) → All (IsShortAfter by)
    items →
    All (λ place. FitsPages place.modifier) made
range_fits Stands Gives by places made items fit zipped together short =
    let after : Item → Item = modified_item by in
    let slots : List Slot = map shown (map after items) in
    All-from_slice_get (λ (p : UnitPlace). FitsPages p.modifier) made
    (λ k new here.
    let old = zip_before (IsModifiedPlace by) places made k new zipped here in
    let below : k < length slots = omega (arith, together.len, slice_get_within made k new here) in
    let slot = there_is slots k below in
    let one = from_map shown (map after items) k slot.0 slot.1 in
    let item = from_map after items k one.0 one.1.0 in
    let is : shown (after item.0) ≡ slot.0 = ap shown item.1.1 ∙ one.1.1 in
    place_fits Stands Gives by old.other new item.0
    (All_at (λ (p : UnitPlace). FitsPages p.modifier) places k old.other fit old.here) old.is
    (subst (IsPlaceForSlot Stands Gives new) (sym is) (together.each k new slot.0 here slot.1))
    (All_at (IsShortAfter by) items k item.0 short item.1.0))

pub all_weaker : (P Q : UnitPlace → Type 0) (places : List UnitPlace) → ((place : UnitPlace) → P place → Q place) →
    All P places → All Q places
all_weaker P Q places weaken all =
    All-from_slice_get Q places (λ k place here. weaken place (All_at P places k place all here))

-- what holds of the places before, and of those that a modifier makes of them, holds of all
pub modified_all : (P Q : UnitPlace → Type 0) (by : Modifier) (from to : ℕ) (old new : List UnitPlace) → from ≤ to →
    AreModified by from to old new → All P old → ((place : UnitPlace) → P place → Q place) →
    All Q (slice_range new from to) → All Q new
modified_all P Q by from to old new order modified all weaken middle =
    let front : All Q (take from new) =
    subst (All Q) (sym modified.before) (all_weaker P Q (take from old) weaken (All-front P from old all)) in
    let back : All Q (drop to new) =
    subst (All Q) (sym modified.after) (all_weaker P Q (drop to old) weaken (All-back P to old all)) in
    subst (All Q) (in_parts new from to order)
    (All-append Q (take from new) (slice_range new from to ++ drop to new) front
    (All-append Q (slice_range new from to) (drop to new) middle back))

-- ---- how long they are

zip_printed : (by : Modifier) (most : ℕ) (old new : List UnitPlace) →
    All (λ place. length (printed_modifier place.modifier) ≤ most) old → AllZip (IsModifiedPlace by) old new →
    All (λ place. length (printed_modifier place.modifier) ≤ most + length (printed_modifier by)) new
zip_printed by most old new all zipped =
    All-from_slice_get
    (λ (p : UnitPlace). length (printed_modifier p.modifier) ≤ most + length (printed_modifier by)) new
    (λ k made here.
    let before = zip_before (IsModifiedPlace by) old new k made zipped here in
    let short =
    All_at (λ (p : UnitPlace). length (printed_modifier p.modifier) ≤ most) old k before.other all before.here in
    omega (
      arith,
      short,
      made_is_not_longer before.other.modifier by made.modifier before.is.modifier,
    ))

pub modified_printed : (by : Modifier) (most more from to : ℕ) (old new : List UnitPlace) → from ≤ to →
    more ≡ length (printed_modifier by) → AreModified by from to old new →
    All (λ place. length (printed_modifier place.modifier) ≤ most) old →
    All (λ place. length (printed_modifier place.modifier) ≤ most + more) new
modified_printed by most more from to old new order is modified all =
    let bytes : ℕ = length (printed_modifier by) in
    let P : UnitPlace → Type 0 = λ place. length (printed_modifier place.modifier) ≤ most in
    let Q : UnitPlace → Type 0 = λ place. length (printed_modifier place.modifier) ≤ most + bytes in
    let range : All P (slice_range old from to) = All-front P (to - from) (drop from old) (All-back P from old all) in
    subst (λ n. All (λ (p : UnitPlace). length (printed_modifier p.modifier) ≤ most + n) new) (sym is)
    (modified_all P Q by from to old new order modified all (λ place within. omega (arith, within))
    (zip_printed by most (slice_range old from to) (slice_range new from to) range modified.modified))
