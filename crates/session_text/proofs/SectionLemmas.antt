-- The sections of a session while the main text is spliced and while their properties are set.
use Rattle.std.specs.Prelude.{slice_get, slice_set, List, ℕ}
use Rattle.std.specs.List.{splice}
use Rattle.std.specs.Option.{option_map, option_and_then}
use Rattle.std.proofs.Common.{◌≡◌, ◌∙◌, ◌++◌, ◌∷◌, ◌+◌, ◌-◌, [], refl, sym, ap, subst, zero, suc, inl, inr}
use Rattle.std.proofs.Common.{Some, None, Option, Bool, true, ◌<◌, length, map, take, drop, arith}
use Rattle.std.proofs.lemmas.Bool.{cases_lt}
use Rattle.std.proofs.lemmas.List.{length-map, length-append, take-append-drop}
use Rattle.std.proofs.lemmas.List.Elements.{filter_map-append, All-replicate}
use Rattle.std.proofs.lemmas.List.{length-replicate}
use Rattle.std.proofs.Common.{replicate}
use Rattle.std.specs.Prelude.{is_some, IsSome}
use Rattle.std.proofs.Common.{cond}
use Rattle.std.proofs.lemmas.List.Sums.{sum_by-cons, count_by_more_yes}
use Rattle.doc_bits.proofs.Public.{All_at, together_joined, together_take, together_drop, slice_get_before, get-map}
use Rattle.doc_bits.proofs.Public.{from_map, in_front, from_behind}
use Rattle.plain_doc.specs.RulesOfSheet.{section_count}
use Rattle.session_text.specs.SessionText.{IsSectionPlan}
use Rattle.std.proofs.lemmas.Option.{slice_get_within, same_Some, none-some}
use Rattle.std.proofs.Math.Seq.{take-append_seam, drop-append_seam, split_at, take-length}
use Rattle.std.proofs.lemmas.List.{set_split}
use Rattle.std.proofs.lemmas.Option.{get_or_from_slice_get}
use Rattle.std.proofs.Common.{get_or}
use Rattle.doc_bits.specs.Together.{AreTogether}
use Rattle.prop_map.specs.Settings.{Properties}
use Rattle.prop_map.specs.Overlay.{overlay}
use Rattle.piece_table.specs.Piece.{UnitPlace, flat_pieces}
use Rattle.doc_model.specs.declared.item.Item.{Item}
use Rattle.doc_patch.specs.Changes.{changed_at, put_changed, with_section}
use Rattle.save_laws.specs.Places.{GivenUnit, given_of}
use Rattle.save_laws.specs.Slots.{Slot, shown, note_slots, head_slots, last_slots, document_slots, IsPlaceForSlot}
use Rattle.save_laws.specs.Slots.{ReadsAfter}
use Rattle.save_laws.specs.FastSaves.{StandsInEither, IsGivenBy}
use Rattle.edit_ops.proofs.Public.{count_upto}
use Rattle.session_text.specs.SessionText.{section_properties}
use Rattle.session_text.specs.SessionChanges.{sections_before, SectionsSplice, SectionsStay, StylesStay, BookmarksStay}
use Rattle.session_text.specs.SessionChanges.{OneSectionIsSet}

-- ---- their list

pub properties-append : (one other : List Item) →
    section_properties (one ++ other) ≡ section_properties one ++ section_properties other
properties-append one other = filter_map-append (λ item. item.sect) one other

pub properties_at : (main : List Item) (at : ℕ) →
    section_properties main ≡ section_properties (take at main) ++ section_properties (drop at main)
properties_at main at =
    ap section_properties (sym (take-append-drop at main)) ∙ properties-append (take at main) (drop at main)

taken_properties : (main : List Item) (at : ℕ) →
    take (sections_before main at) (section_properties main) ≡ section_properties (take at main)
taken_properties main at =
    ap (take (sections_before main at)) (properties_at main at)
    ∙ take-append_seam (section_properties (take at main)) (section_properties (drop at main))

dropped_properties : (main : List Item) (at : ℕ) →
    drop (sections_before main at) (section_properties main) ≡ section_properties (drop at main)
dropped_properties main at =
    ap (drop (sections_before main at)) (properties_at main at)
    ∙ drop-append_seam (section_properties (take at main)) (section_properties (drop at main))

pub sections_splice : SectionsSplice
sections_splice main fresh from to =
    properties-append (take from main) (fresh ++ drop to main)
    ∙ (ap (λ l. section_properties (take from main) ++ l) (properties-append fresh (drop to main))
    ∙ (ap (λ l. l ++ (section_properties fresh ++ section_properties (drop to main))) (sym (taken_properties main from))
    ∙ ap (λ l. take (sections_before main from) (section_properties main) ++ (section_properties fresh ++ l))
    (sym (dropped_properties main to))))

-- ---- properties that are set

-- the entry between two lists, set
set_behind : (front : List Properties) (old new : Properties) (back : List Properties) →
    slice_set (front ++ old ∷ back) (length front) new ≡ front ++ new ∷ back
set_behind [] old new back = refl
set_behind (x ∷ front) old new back = ap (λ l. x ∷ l) (set_behind front old new back)

-- an item that ends a section, before others
properties_front : (item : Item) (items : List Item) (properties : Properties) → item.sect ≡ Some properties →
    section_properties (item ∷ items) ≡ properties ∷ section_properties items
properties_front item items properties is = rw is refl

-- the section that ends at an item, with other properties
set_properties : (main : List Item) (at : ℕ) (item new : Item) (before after : Properties) →
    slice_get main at ≡ Some item → item.sect ≡ Some before → new.sect ≡ Some after →
    section_properties (slice_set main at new) ≡ slice_set (section_properties main) (sections_before main at) after
set_properties main at item new before after there is made =
    let low = slice_get_within main at item there in
    let front : List Properties = section_properties (take at main) in
    let back : List Properties = section_properties (drop (suc at) main) in
    let read : get_or main at item ≡ item = get_or_from_slice_get main at item item there in
    let parts : main ≡ take at main ++ item ∷ drop (suc at) main =
    split_at main at item low ∙ ap (λ t. take at main ++ t ∷ drop (suc at) main) read in
    let whole : section_properties main ≡ front ++ before ∷ back =
    ap section_properties parts ∙ (properties-append (take at main) (item ∷ drop (suc at) main)
    ∙ ap (λ l. front ++ l) (properties_front item (drop (suc at) main) before is)) in
    let changed : section_properties (slice_set main at new) ≡ front ++ after ∷ back =
    ap section_properties (set_split main at new low)
    ∙ (properties-append (take at main) (new ∷ drop (suc at) main)
    ∙ ap (λ l. front ++ l) (properties_front new (drop (suc at) main) after made)) in
    changed ∙ (sym (set_behind front before after back) ∙ ap (λ l. slice_set l (length front) after) (sym whole))

pub one_section_is_set : OneSectionIsSet
one_section_is_set main at item set before there is =
    ap (λ o. section_properties (put_changed main at (with_section set) o)) there
    ∙ set_properties main at item (with_section set item) before (overlay set before) there is
    (ap (option_map (overlay set)) is)

-- ---- what stays

set_given : (main : List Item) (at : ℕ) (item : Item) (set : Properties) → slice_get main at ≡ Some item →
    map given_of (slice_set main at (with_section set item)) ≡ map given_of main
set_given [] at item set there = refl
set_given (x ∷ xs) zero item set there = ap (λ y. given_of y ∷ map given_of xs) (sym (same_Some x item there))
set_given (x ∷ xs) (suc at) item set there = ap (λ l. given_of x ∷ l) (set_given xs at item set there)

pub put_given : (main : List Item) (at : ℕ) (set : Properties) (o : Option Item) → slice_get main at ≡ o →
    map given_of (put_changed main at (with_section set) o) ≡ map given_of main
put_given main at set None there = refl
put_given main at set (Some item) there = set_given main at item set there

-- as many items
length-put_set : (main : List Item) (at : ℕ) (set : Properties) (o : Option Item) → slice_get main at ≡ o →
    length (put_changed main at (with_section set) o) ≡ length main
length-put_set main at set o there =
    let new = put_changed main at (with_section set) o in
    omega
    (arith, length-map new given_of, length-map main given_of, ap length (put_given main at set o there))

pub length-put : (main : List Item) (at : ℕ) (set : Properties) →
    length (changed_at main at (with_section set)) ≡ length main
length-put main at set = length-put_set main at set (slice_get main at) refl

-- the item that is given the same
record HasGiven (main : List Item) (k : ℕ) (given : GivenUnit) : Type 0 where
  item : Item
  here : slice_get main k ≡ Some item
  is : given_of item ≡ given

has_given : (main new : List Item) (k : ℕ) (item : Item) → map given_of new ≡ map given_of main →
    slice_get new k ≡ Some item → HasGiven main k (given_of item)
has_given main new k item same here =
    let there : slice_get (map given_of main) k ≡ Some (given_of item) =
    ap (λ l. slice_get l k) (sym same) ∙ get-map given_of new k item here in
    let found = from_map given_of main k (given_of item) there in
    record { item = found.0; here = found.1.0; is = found.1.1 }

pub given_stays : (Stands : ℕ → Bool → Type 0) (Gives : ℕ → Bool → GivenUnit → Type 0) (places : List UnitPlace)
    (main new : List Item) (rest : List Slot) → map given_of new ≡ map given_of main →
    AreTogether (IsPlaceForSlot Stands Gives) places (map shown main ++ rest) →
    AreTogether (IsPlaceForSlot Stands Gives) places (map shown new ++ rest)
given_stays Stands Gives places main new rest same together =
    let P : UnitPlace → Slot → Type 0 = IsPlaceForSlot Stands Gives in
    let count : length new ≡ length main =
    sym (length-map new given_of) ∙ (ap length same ∙ length-map main given_of) in
    let one : length (map shown main) ≡ length main = length-map main shown in
    let other : length (map shown new) ≡ length main = length-map new shown ∙ count in
    record {
      len =
          omega
          (arith, together.len, one, other, length-append (map shown main) rest, length-append (map shown new) rest);
      each = λ k place slot here there. elim (cases_lt k (length main)) [
        | inl low ↦
            let low_new : k < length (map shown new) = omega (arith, low, other) in
            let found = from_map shown new k slot (sym (slice_get_before (map shown new) rest k low_new) ∙ there) in
            let has = has_given main new k found.0 same found.1.0 in
            let old =
            together.each k place (shown has.item) here
            (in_front (map shown main) rest k (shown has.item) (get-map shown main k has.item has.here)) in
            subst (P place) found.1.1 (subst (ReadsAfter Gives place) has.is old)
        | inr high ↦
            let n : ℕ = k - length main in
            let a : length (map shown new) + n ≡ k = omega (arith, high, other) in
            let b : length (map shown main) + n ≡ k = omega (arith, high, one) in
            together.each k place slot here
            (ap (slice_get (map shown main ++ rest)) (sym b)
            ∙ (from_behind (map shown main) rest n
            ∙ (sym (from_behind (map shown new) rest n)
            ∙ (ap (slice_get (map shown new ++ rest)) a ∙ there))))
      ];
    }

pub sections_stay : SectionsStay
unfolding document_slots
sections_stay old plan pieces document ends at set stands =
    let notes = note_slots document ends in
    let heads = head_slots document ends in
    given_stays (StandsInEither old plan) (IsGivenBy old plan) (flat_pieces pieces) document.main
    (changed_at document.main at (with_section set)) (notes ++ (heads ++ last_slots (notes ++ heads)))
    (put_given document.main at set (slice_get document.main at) refl) stands

-- a section that ends at an item is one of all
pub section_below : (main : List Item) (at : ℕ) →
    IsSome (option_and_then (λ (item : Item). item.sect) (slice_get main at)) →
    section_count (take at main) < section_count main
section_below main at some = here (slice_get main at) refl some
  where
    here : (found : Option Item) → slice_get main at ≡ found →
        IsSome (option_and_then (λ (item : Item). item.sect) found) → section_count (take at main) < section_count main
    here None there some = absurd (cc some)
    here (Some item) there some =
        let low = slice_get_within main at item there in
        let read : get_or main at item ≡ item = get_or_from_slice_get main at item item there in
        let yes : is_some (get_or main at item).sect ≡ true =
        ap (λ (i : Item). is_some i.sect) read ∙ some in
        let more = count_by_more_yes (λ (i : Item). is_some i.sect) main at item low yes in
        let upto = count_upto (λ (i : Item). is_some i.sect) main (at + 1) (length main) (omega (arith, low)) in
        let whole = ap section_count (take-length main) in
        omega (arith, more, upto, whole)

pub styles_stay : StylesStay
unfolding document_slots
styles_stay = record {
  characters = λ document ends istd set. refl;
  paragraphs = λ document ends istd set. refl;
}

pub bookmarks_stay : BookmarksStay
unfolding document_slots
bookmarks_stay document ends list = refl

-- ---- where properties are

-- an item ends a section or not
one_counted : (o : Option Properties) (item : Item) (items : List Item) → item.sect ≡ o →
    length (section_properties items) ≡ section_count items →
    length (section_properties (item ∷ items)) ≡ section_count (item ∷ items)
one_counted None item items is rest = rw is rest
one_counted (Some properties) item items is rest =
    let one : cond {A = ℕ} (is_some item.sect) 1 0 ≡ 1 =
    ap (λ (o : Option Properties). cond {A = ℕ} (is_some o) 1 0) is in
    omega (
      arith,
      ap length (properties_front item items properties is),
      sum_by-cons (λ (i : Item). cond (is_some i.sect) 1 0) item items,
      one,
      rest,
    )

pub properties_counted : (items : List Item) → length (section_properties items) ≡ section_count items
properties_counted [] = refl
properties_counted (item ∷ items) = one_counted item.sect item items refl (properties_counted items)

none_there : (count k : ℕ) (place : Option ℕ) → slice_get (replicate count None) k ≡ Some place → place ≡ None
none_there count k place here =
    All_at (λ (o : Option ℕ). o ≡ None) (replicate count None) k place
    (All-replicate (λ (o : Option ℕ). o ≡ None) count None refl) here

-- properties that are still to be written
unwritten : (wd : List ℕ) (properties : List Properties) (count : ℕ) → count ≡ length properties →
    AreTogether (IsSectionPlan wd) (replicate count None) properties
unwritten wd properties count is = record {
  len = length-replicate count None ∙ is;
  each = λ k place one here there value same. absurd (none-some value (sym (none_there count k place here) ∙ same));
}

-- the places after a splice of the main text
pub places_spliced : (wd : List ℕ) (places : List (Option ℕ)) (main fresh : List Item) (from to : ℕ)
    (before behind count : ℕ) → before ≡ section_count (take from main) → behind ≡ section_count (take to main) →
    count ≡ section_count fresh → AreTogether (IsSectionPlan wd) places (section_properties main) →
    AreTogether (IsSectionPlan wd) (take before places ++ (replicate count None ++ drop behind places))
    (section_properties (splice main from to fresh))
places_spliced wd places main fresh from to before behind count first last many together =
    let P : Option ℕ → Properties → Type 0 = IsSectionPlan wd in
    let properties : List Properties = section_properties main in
    let a : before ≡ sections_before main from = first ∙ sym (properties_counted (take from main)) in
    let b : behind ≡ sections_before main to = last ∙ sym (properties_counted (take to main)) in
    let c : count ≡ length (section_properties fresh) = many ∙ sym (properties_counted fresh) in
    let joined =
    together_joined P (take before places) (take before properties) (replicate count None ++ drop behind places)
    (section_properties fresh ++ drop behind properties) (together_take P before places properties together)
    (together_joined P (replicate count None) (section_properties fresh) (drop behind places) (drop behind properties)
    (unwritten wd (section_properties fresh) count c) (together_drop P behind places properties together)) in
    subst (AreTogether P (take before places ++ (replicate count None ++ drop behind places)))
    (ap (λ n. take n properties ++ (section_properties fresh ++ drop behind properties)) a
    ∙ (ap (λ n. take (sections_before main from) properties ++ (section_properties fresh ++ drop n properties)) b
    ∙ sym (sections_splice main fresh from to))) joined
