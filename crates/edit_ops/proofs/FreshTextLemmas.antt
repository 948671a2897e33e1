-- Properties of items that are there.
use Rattle.std.proofs.Common.{◌≡◌, ◌∙◌, inl, inr, refl, sym, ap, subst, ℕ, List, [], ◌∷◌, ◌++◌, map, Option, Some}
use Rattle.std.proofs.Common.{None, append_assoc, ◌+◌, length, length-append}
use Rattle.std.proofs.lemmas.List.{length-map}
use Rattle.std.specs.Prelude.{slice_get}
use Rattle.std.specs.Option.{option_map, unwrap_or}
use Rattle.std.specs.FinMap.{empty}
use Rattle.std.proofs.lemmas.Option.{same_Some, none-some, slice_get-map, slice_get_cases}
use Rattle.prop_map.specs.Settings.{Properties}
use Rattle.prop_map.specs.Overlay.{without}
use Rattle.prop_map.specs.Formed.{IsPropertyMap, character_groups}
use Rattle.doc_model.specs.declared.item.Item.{Item}
use Rattle.doc_model.specs.Document.{IsFormedText}
use Rattle.plain_doc.proofs.Public.{maps_there}
use Rattle.doc_columns.specs.Columns.{bare_items}
use Rattle.edit_ops.specs.Fresh.{special_codes, base_of_item, base_properties, special, unit_item, unit_items}
use Rattle.edit_ops.specs.Fresh.{plain_end}
use Rattle.edit_ops.specs.Fresh.{field_mark, field_items, note_items}

base_chp : (o : Option Item) →
    base_of_item o ≡ unwrap_or (option_map (without special_codes) (option_map (λ (item : Item). item.chp) o)) empty
base_chp None = refl
base_chp (Some item) = refl

-- the base properties, by the properties that are there, or not
pub base_by : (text : List Item) (at : ℕ) (o : Option Properties) →
    slice_get (map (λ (item : Item). item.chp) text) at ≡ o
    → base_properties text at ≡ unwrap_or (option_map (without special_codes) o) empty
base_by text at o is =
    base_chp (slice_get text at)
    ∙ ap (λ (p : Option Properties). unwrap_or (option_map (without special_codes) p) empty)
    (sym (slice_get-map (λ (item : Item). item.chp) text at) ∙ is)

-- properties that are there are well formed
pub chp_formed : (text : List Item) (at : ℕ) (chp : Properties) → IsFormedText text →
    slice_get (map (λ (item : Item). item.chp) text) at ≡ Some chp → IsPropertyMap character_groups chp
chp_formed text at chp formed there = elim (slice_get_cases text at).1 [
  | inl w ↦
      let is : w.0.chp ≡ chp =
      same_Some w.0.chp chp
      (sym (ap (option_map (λ (item : Item). item.chp)) w.2) ∙ sym (slice_get-map (λ (item : Item). item.chp) text at)
      ∙ there) in
      subst (IsPropertyMap character_groups) is (maps_there text at w.0 formed w.2).chp
  | inr past ↦
      absurd (none-some chp
      (sym (ap (option_map (λ (item : Item). item.chp)) past.1)
      ∙ sym (slice_get-map (λ (item : Item). item.chp) text at)
      ∙ there))
]

-- ---- texts put together

pub length-one : (text made : List Item) (item : Item) → made ≡ text ++ item ∷ [] → length made ≡ length text + 1
length-one text made item is = ap length is ∙ length-append text (item ∷ [])

pub length-units : (text made : List Item) (chp : Properties) (units : List ℕ) → made ≡ text ++ unit_items chp units →
    length made ≡ length text + length units
length-units text made chp units is =
    ap length is
    ∙ length-append text (unit_items chp units)
    ∙ ap (λ n. length text + n) (length-map units (unit_item chp))

-- units, and two paragraph marks
pub two_ends : (units : List ℕ) (none : Properties) (new shown ended made : List Item) (one two : Item) →
    none ≡ empty → new ≡ [] → shown ≡ new ++ bare_items none units → one ≡ plain_end → ended ≡ shown ++ one ∷ []
    → two ≡ plain_end → made ≡ ended ++ two ∷ []
    → made ≡ unit_items empty units ++ plain_end ∷ plain_end ∷ []
two_ends units none new shown ended made one two none_is new_is shown_is one_is ended_is two_is made_is =
    rw (made_is, two_is, ended_is, one_is, shown_is, new_is, none_is)
    (append_assoc (unit_items empty units) (plain_end ∷ []) (plain_end ∷ []))

-- an item, units, and a paragraph mark
pub note_parts : (units : List ℕ) (none : Properties) (new begun shown made : List Item) (first last : Item) →
    none ≡ empty → new ≡ [] → first ≡ unit_item (special empty) 0x02 → begun ≡ new ++ first ∷ []
    → shown ≡ begun ++ bare_items none units → last ≡ plain_end → made ≡ shown ++ last ∷ []
    → made ≡ note_items units
note_parts units none new begun shown made first last none_is new_is first_is begun_is shown_is last_is made_is =
    let joined : made ≡ (([] ++ first ∷ []) ++ bare_items none units) ++ last ∷ [] =
    made_is
    ∙ ap (λ (t : List Item). t ++ last ∷ []) (shown_is
    ∙ ap (λ (t : List Item). t ++ bare_items none units) (begun_is
    ∙ ap (λ (t : List Item). t ++ first ∷ []) new_is)) in
    joined
    ∙ ap (λ (x : Item). x ∷ (bare_items none units ++ last ∷ [])) first_is
    ∙ ap (λ (s : Properties). unit_item (special empty) 0x02 ∷ (bare_items s units ++ last ∷ [])) none_is
    ∙ ap (λ (x : Item). unit_item (special empty) 0x02 ∷ (bare_items empty units ++ x ∷ [])) last_is

field_joined : (begin separator end : Item) (code shown : List Item) →
    ((((begin ∷ []) ++ code) ++ separator ∷ []) ++ shown) ++ end ∷ []
    ≡ begin ∷ code ++ (separator ∷ shown ++ end ∷ [])
field_joined begin separator end code shown =
    ap (λ (rest : List Item). begin ∷ rest)
    (append_assoc (code ++ separator ∷ []) shown (end ∷ [])
    ∙ append_assoc code (separator ∷ []) (shown ++ end ∷ []))

-- three field characters, with units between them
pub field_parts : (base one two : Properties) (kind : ℕ) (code shown : List ℕ)
    (new begun coded parted both made : List Item) (begin separator end : Item) → one ≡ base → two ≡ base → new ≡ []
    → begin ≡ field_mark base 0x13 kind → begun ≡ new ++ begin ∷ [] → coded ≡ begun ++ bare_items one code
    → separator ≡ field_mark base 0x14 0xFF → parted ≡ coded ++ separator ∷ []
    → both ≡ parted ++ bare_items two shown → end ≡ field_mark base 0x15 0x80 → made ≡ both ++ end ∷ []
    → made ≡ field_items base kind code shown
field_parts base one two kind code shown new begun coded parted both made begin separator end one_is two_is new_is
    begin_is begun_is coded_is separator_is parted_is both_is end_is made_is =
    let joined : made
    ≡ (((([] ++ begin ∷ []) ++ bare_items one code) ++ separator ∷ []) ++ bare_items two shown) ++ end ∷ [] =
    made_is
    ∙ ap (λ (t : List Item). t ++ end ∷ []) (both_is
    ∙ ap (λ (t : List Item). t ++ bare_items two shown) (parted_is
    ∙ ap (λ (t : List Item). t ++ separator ∷ []) (coded_is
    ∙ ap (λ (t : List Item). t ++ bare_items one code) (begun_is
    ∙ ap (λ (t : List Item). t ++ begin ∷ []) new_is)))) in
    let first = field_mark base 0x13 kind in
    let middle = field_mark base 0x14 0xFF in
    joined
    ∙ field_joined begin separator end (bare_items one code) (bare_items two shown)
    ∙ ap (λ (x : Item). x ∷ bare_items one code ++ (separator ∷ bare_items two shown ++ end ∷ [])) begin_is
    ∙ ap (λ (s : Properties). first ∷ bare_items s code ++ (separator ∷ bare_items two shown ++ end ∷ [])) one_is
    ∙ ap (λ (x : Item). first ∷ bare_items base code ++ (x ∷ bare_items two shown ++ end ∷ [])) separator_is
    ∙ ap (λ (s : Properties). first ∷ bare_items base code ++ (middle ∷ bare_items s shown ++ end ∷ [])) two_is
    ∙ ap (λ (x : Item). first ∷ bare_items base code ++ (middle ∷ bare_items base shown ++ x ∷ [])) end_is
