-- How long the printed forms of maps and modifiers are: a part is not longer than the whole, and what is put over
-- something is not longer than both.
use Rattle.std.specs.List.{filter}
use Rattle.std.specs.Option.{option_or}
use Rattle.std.specs.Ordering.{nat_cmp}
use Rattle.std.specs.FinMap.{get, retain_keys, entries, entries_sorted, from_sorted, entries-from_sorted}
use Rattle.std.specs.FinMap.Entries.{where_key, is_sorted-where_key}
use Rattle.std.proofs.Common.{◌≡◌, ◌∙◌, ◌++◌, ◌∷◌, ◌+◌, ◌≤◌, [], refl, sym, ap, ℕ, Bool, true, false, cond, not, ◌||◌}
use Rattle.std.proofs.Common.{List, Option, Some, None, is_some, flat_map, length, arith}
use Rattle.std.proofs.lemmas.List.{length-append}
use Rattle.std.proofs.lemmas.List.Concat.{flat_map-cons}
use Rattle.std.proofs.lemmas.Grind.{flat_map-append}
use Rattle.std.proofs.lemmas.Option.{none-some}
use Rattle.std.proofs.Common.{◌&&◌}
use Rattle.sprm_table.specs.Sprm.{Prl, spelling}
use Rattle.prop_map.specs.Acting.{is_kept_by_plain}
use Rattle.prop_map.specs.declared.modifiers.Modifier.{Modifier}
use Rattle.prop_map.specs.Settings.{Properties}
use Rattle.prop_map.specs.Printing.{printed_list}
use Rattle.prop_map.specs.Modifiers.{value_over, IsOver, IsCharacterAfter, IsMarkAfter, IsComposed, style_prls}
use Rattle.prop_map.specs.Modifiers.{clear_prls, printed_modifier}
use Rattle.prop_map.proofs.ChangeLemmas.{get-retained, from_sorted-where}
use Rattle.prop_map.proofs.EntriesLemmas.{true_of, from_sorted-entries}
use Rattle.prop_map.proofs.MapLemmas.{same_properties}

abbrev pub spelt_length : List Prl → ℕ
spelt_length prls = length (flat_map spelling prls)

spelt-cons : (prl : Prl) (prls : List Prl) → spelt_length (prl ∷ prls) ≡ length (spelling prl) + spelt_length prls
spelt-cons prl prls = ap length (flat_map-cons spelling prl prls) ∙ length-append (spelling prl) (flat_map spelling
    prls)

pub spelt-append : (one other : List Prl) → spelt_length (one ++ other) ≡ spelt_length one + spelt_length other
spelt-append one other =
    ap length (flat_map-append spelling one other) ∙ length-append (flat_map spelling one) (flat_map spelling other)

-- ---- entries that pass a test, and the others

spelt_case : (prl : Prl) (kept left : List Prl) (test : Bool) →
    spelt_length (cond test (prl ∷ kept) kept) + spelt_length (cond (not test) (prl ∷ left) left)
    ≡ length (spelling prl) + (spelt_length kept + spelt_length left)
spelt_case prl kept left true = omega (arith, spelt-cons prl kept)
spelt_case prl kept left false = omega (arith, spelt-cons prl left)

spelt_parts : (p : Prl → Bool) (prls : List Prl) →
    spelt_length (filter p prls) + spelt_length (filter (λ prl. not (p prl)) prls) ≡ spelt_length prls
spelt_parts p [] = omega arith
spelt_parts p (prl ∷ prls) =
    omega (
      arith,
      spelt_case prl (filter p prls) (filter (λ other. not (p other)) prls) (p prl),
      spelt_parts p prls,
      spelt-cons prl prls,
    )

-- the entries of the codes that pass a test
entries_kept : (map : Properties) (p : ℕ → Bool) → entries (retain_keys map p) ≡ filter (λ prl. p prl.0) (entries map)
entries_kept map p =
    let sorted = entries_sorted map in
    let made : from_sorted (where_key nat_cmp p (entries map)) ≡ retain_keys map p =
    from_sorted-where p (entries map) (true_of _ sorted)
    ∙ ap (λ (m : Properties). retain_keys m p) (from_sorted-entries map) in
    ap (λ (m : Properties). entries m) (sym made)
    ∙ entries-from_sorted nat_cmp (where_key nat_cmp p (entries map))
    (is_sorted-where_key nat_cmp p (entries map) sorted)

-- a map by a test on its codes
kept_parts : (p : ℕ → Bool) (map : Properties) →
    length (printed_list (retain_keys map p)) + length (printed_list (retain_keys map (λ code. not (p code))))
    ≡ length (printed_list map)
kept_parts p map =
    omega (
      arith,
      ap spelt_length (entries_kept map p),
      ap spelt_length (entries_kept map (λ code. not (p code))),
      spelt_parts (λ prl. p prl.0) (entries map),
    )

-- ---- a map within another

kept_value : (small large : Option (List ℕ)) → ((value : List ℕ) → small ≡ Some value → large ≡ Some value) →
    small ≡ cond (is_some small) large None
kept_value None large within = refl
kept_value (Some value) large within = sym (within value refl)

-- the properties of a map that another has too
pub record IsWithin (small large : Properties) : Type 0 where
  pub has : (code : ℕ) (value : List ℕ) → get small code ≡ Some value → get large code ≡ Some value

pub fewer_are_not_longer : (small large : Properties) → IsWithin small large →
    length (printed_list small) ≤ length (printed_list large)
fewer_are_not_longer small large within =
    let p : ℕ → Bool = λ code. is_some (get small code) in
    let same : small ≡ retain_keys large p =
    same_properties small (retain_keys large p)
    (λ code. kept_value (get small code) (get large code) (within.has code) ∙ sym (get-retained large p code)) in
    omega (arith, ap (λ map. length (printed_list map)) same, kept_parts p large)

-- ---- a map over another

over_kept : (over new : Option (List ℕ)) (base : Option (List ℕ)) (clear : Bool) (code : ℕ) →
    new ≡ value_over clear code over base → over ≡ cond (is_some over) new None
over_kept None new base clear code is = refl
over_kept (Some value) new base clear code is = sym is

or_base : (base : Option (List ℕ)) → base ≡ option_or None base
or_base None = refl
or_base (Some value) = refl

-- what a clear leaves was there
left_if : (test : Bool) (base : Option (List ℕ)) (value : List ℕ) → option_or None (cond test None base) ≡ Some value →
    base ≡ Some value
left_if true base value here = absurd (none-some value here)
left_if false base value here = or_base base ∙ here

left_value : (clear : Bool) (code : ℕ) (base : Option (List ℕ)) (value : List ℕ) →
    value_over clear code None base ≡ Some value → base ≡ Some value
left_value clear code base value here = left_if (clear && not (is_kept_by_plain code)) base value here

over_rest : (over new base : Option (List ℕ)) (clear : Bool) (code : ℕ) (value : List ℕ) →
    new ≡ value_over clear code over base → cond (not (is_some over)) new None ≡ Some value → base ≡ Some value
over_rest None new base clear code value is here = left_value clear code base value (sym is ∙ here)
over_rest (Some first) new base clear code value is here = absurd (none-some value here)

pub over_is_not_longer : (clear : Bool) (over base new : Properties) → IsOver clear over base new →
    length (printed_list new) ≤ length (printed_list over) + length (printed_list base)
over_is_not_longer clear over base new is =
    let p : ℕ → Bool = λ code. is_some (get over code) in
    let first : over ≡ retain_keys new p =
    same_properties over (retain_keys new p)
    (λ code. over_kept (get over code) (get new code) (get base code) clear code (is code)
    ∙ sym (get-retained new p code)) in
    let rest : IsWithin (retain_keys new (λ code. not (p code))) base = record {
      has = λ code value here.
          over_rest (get over code) (get new code) (get base code) clear code value (is code)
          (sym (get-retained new (λ key. not (p key)) code) ∙ here);
    } in
    omega (
      arith,
      ap (λ map. length (printed_list map)) first,
      kept_parts p new,
      fewer_are_not_longer (retain_keys new (λ code. not (p code))) base rest,
    )

-- ---- modifiers

over_value : (clear : Bool) (code : ℕ) (over before new : Option (List ℕ)) (value : List ℕ) →
    new ≡ value_over clear code over before → over ≡ Some value → new ≡ Some value
over_value clear code over before new value is here =
    is ∙ ap (λ o. value_over clear code o before) here

-- the characters that a modifier sets are no longer than those of what it made
pub characters_are_not_longer : (modifier : Modifier) (before after : Properties) →
    IsCharacterAfter modifier before after → length (printed_list modifier.chp) ≤ length (printed_list after)
characters_are_not_longer modifier before after is =
    fewer_are_not_longer modifier.chp after (record {
      has = λ code value here.
          over_value modifier.clear code (get modifier.chp code) (get before code) (get after code) value (is code)
          here;
    })

pub marks_are_not_longer : (modifier : Modifier) (before after : Properties) → IsMarkAfter modifier before after →
    length (printed_list modifier.pap) ≤ length (printed_list after)
marks_are_not_longer modifier before after is =
    fewer_are_not_longer modifier.pap after (record {
      has = λ code value here. is code ∙ ap (λ o. option_or o (get before code)) here;
    })

pub modifier_parts : (modifier : Modifier) →
    length (printed_modifier modifier)
    ≡ spelt_length (style_prls modifier.istd) + (length (printed_list modifier.pap)
    + (spelt_length (clear_prls modifier.clear) + length (printed_list modifier.chp)))
modifier_parts modifier =
    let clear = clear_prls modifier.clear in
    let chp = entries modifier.chp in
    let pap = entries modifier.pap in
    omega (
      arith,
      spelt-append (style_prls modifier.istd) (pap ++ (clear ++ chp)),
      spelt-append pap (clear ++ chp),
      spelt-append clear chp,
    )

style_made : (first next : Option ℕ) →
    spelt_length (style_prls (option_or next first)) ≤ spelt_length (style_prls first) + spelt_length (style_prls next)
style_made first None = omega arith
style_made first (Some istd) = omega arith

clear_made : (first next : Bool) →
    spelt_length (clear_prls (first || next)) ≤ spelt_length (clear_prls first) + spelt_length (clear_prls next)
clear_made true next = omega arith
clear_made false next = omega arith

-- a composed modifier is printed in no more bytes than both
pub made_is_not_longer : (first next made : Modifier) → IsComposed first next made →
    length (printed_modifier made) ≤ length (printed_modifier first) + length (printed_modifier next)
made_is_not_longer first next made is =
    omega (
      arith,
      modifier_parts first,
      modifier_parts next,
      modifier_parts made,
      ap (λ o. spelt_length (style_prls o)) is.istd,
      style_made first.istd next.istd,
      ap (λ b. spelt_length (clear_prls b)) is.clear,
      clear_made first.clear next.clear,
      over_is_not_longer next.clear next.chp first.chp made.chp is.chp,
      over_is_not_longer false next.pap first.pap made.pap is.pap,
    )
