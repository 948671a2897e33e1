-- Changes of properties leave the units of all texts.
use Rattle.std.proofs.Common.{◌≡◌, ◌∙◌, ap, sym, refl, ℕ, ◌≤◌, arith, inl, inr}
use Rattle.std.proofs.Common.{List, ◌++◌, map, take, drop, Option, Some, None, slice_get}
use Rattle.std.specs.Prelude.{option_map, slice_range, slice_set, MatchOption}
use Rattle.std.proofs.lemmas.Bool.{cases_eq}
use Rattle.std.proofs.lemmas.List.{map-append}
use Rattle.std.proofs.lemmas.Option.{slice_get_within}
use Rattle.doc_bits.specs.declared.places.Story.{Story}
use Rattle.doc_bits.specs.declared.places.Story.TheVariants.{Main, Note, Head}
use Rattle.doc_bits.proofs.Public.{map-map, set_here, set_other}
use Rattle.prop_map.specs.declared.modifiers.Modifier.{Modifier}
use Rattle.doc_model.specs.declared.item.Item.{Item}
use Rattle.doc_model.specs.declared.document.Document.{Document}
use Rattle.doc_patch.specs.declared.changes.Change.TheVariants.{ModifyItems}
use Rattle.doc_patch.specs.Changes.{changed, changed_at, map_range, modified_item, put_changed}
use Rattle.doc_patch.specs.Places.{HasRange, HasText}
use Rattle.doc_mends.specs.UnitsStay.{units_of}
use Rattle.doc_mends.proofs.PlainUnitLemmas.{in_three, units}

range_units : (modifier : Modifier) (text : List Item) (from to : ℕ) → from ≤ to →
    units (map_range (modified_item modifier) text from to) ≡ units text
range_units modifier text from to ordered =
    let unit : Item → ℕ = λ item. item.unit in
    let front : List Item = take from text in
    let middle : List Item = slice_range text from to in
    let rest : List Item = drop to text in
    let made : List Item = map (modified_item modifier) middle in
    map-append unit front (made ++ rest)
    ∙ (ap (λ (l : List ℕ). units front ++ l)
    (map-append unit made rest
    ∙ (ap (λ (l : List ℕ). l ++ units rest) (map-map unit (modified_item modifier) middle)
    ∙ sym (map-append unit middle rest)))
    ∙ (sym (map-append unit front (middle ++ rest)) ∙ sym (ap units (in_three text from to ordered))))

abbrev these_units : Option (List Item) → Option (List ℕ)
these_units text = option_map (map (λ item. item.unit)) text

-- one of several texts is changed
entries_units : (modifier : Modifier) (entries : List (List Item)) (number other from to : ℕ) →
    MatchOption (slice_get entries number) ⊥ (HasRange from to) →
    these_units (slice_get (changed_at entries number (λ text. map_range (modified_item modifier) text from to)) other)
    ≡ these_units (slice_get entries other)
entries_units modifier entries number other from to there = by_entry (slice_get entries number) refl there
  where
    by_entry : (o : Option (List Item)) → slice_get entries number ≡ o → MatchOption o ⊥ (HasRange from to) →
        these_units (slice_get (put_changed entries number (λ text. map_range (modified_item modifier) text from to) o)
        other)
        ≡ these_units (slice_get entries other)
    by_entry None is range = absurd range
    by_entry (Some text) is range =
        let made : List Item = map_range (modified_item modifier) text from to in
        let low = slice_get_within entries number text is in
        let ordered : from ≤ to = omega (arith, range.0) in
        elim (cases_eq other number) [
          | inl same ↦
              ap these_units (ap (slice_get (slice_set entries number made)) same ∙ set_here entries number made low)
              ∙ (ap (λ (l : List ℕ). Some l) (range_units modifier text from to ordered)
              ∙ sym (ap these_units (ap (slice_get entries) same ∙ is)))
          | inr apart ↦ ap these_units (set_other entries number other made apart)
        ]

pub modified_units : (document : Document) (story other : Story) (from to : ℕ) (modifier : Modifier) →
    HasText document story (HasRange from to) →
    units_of (changed (ModifyItems story from to modifier) document) other ≡ units_of document other
modified_units document Main Main from to modifier there =
    let ordered : from ≤ to = omega (arith, there.0) in
    ap (λ (l : List ℕ). Some l) (range_units modifier document.main from to ordered)
modified_units document Main (Note n) from to modifier there = refl
modified_units document Main (Head n) from to modifier there = refl
modified_units document (Note m) Main from to modifier there = refl
modified_units document (Note m) (Note n) from to modifier there =
    entries_units modifier document.notes m n from to there
modified_units document (Note m) (Head n) from to modifier there = refl
modified_units document (Head m) Main from to modifier there = refl
modified_units document (Head m) (Note n) from to modifier there = refl
modified_units document (Head m) (Head n) from to modifier there =
    entries_units modifier document.heads m n from to there
