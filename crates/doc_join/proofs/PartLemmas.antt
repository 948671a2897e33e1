-- A sheet within a joined one: the slots of each document, and the chains of its styles.
use Rattle.std.proofs.Common.{◌≡◌, ◌∙◌, refl, sym, ap, subst, ℕ, ◌+◌, ◌-◌, ◌<◌, ◌≤◌, cond, List}
use Rattle.std.proofs.Common.{◌++◌, length, map, get_or, Option, Some, None, arith}
use Rattle.std.proofs.Common.{length-append}
use Rattle.std.proofs.lemmas.Bool.{lt-ltb}
use Rattle.std.proofs.lemmas.List.{length-map, get_or_append_left, get_or-append-add, get_or-map}
use Rattle.std.proofs.lemmas.List.FromFn.{get_or-map-range_with_len}
use Rattle.std.proofs.lemmas.Option.{none-some}
use Rattle.std.specs.Prelude.{slice_index}
use Rattle.prop_map.specs.Settings.{Properties}
use Rattle.style_sheet.specs.declared.styles.Style.{Style}
use Rattle.style_sheet.specs.declared.styles.Kind.{Kind}
use Rattle.style_sheet.specs.declared.styles.Kind.TheVariants.{Para, Char, Other}
use Rattle.style_sheet.specs.Sheet.{Sheet, style_at}
use Rattle.style_sheet.specs.Changes.{kind_characters, pap_of_style, with_characters}
use Rattle.style_sheet.specs.Chain.{properties_kind, style_kind_in, style_kind_at, base_in, base_at, IsBaseChain}
use Rattle.style_sheet.proofs.Public.{there}
use Rattle.effective_props.specs.Layers.{paragraph_properties, character_properties}
use Rattle.doc_join.specs.declared.renumbering.Renumbering.{Renumbering}
use Rattle.doc_join.specs.Numbers.{base_behind, numbers_of_first, numbers_of_second}
use Rattle.doc_join.specs.Settings.{renumbered_chp}
use Rattle.doc_join.specs.Styles.{slot_from_first, slot_from_second, slots_from_first, slots_from_second, joined_sheet}
use Rattle.doc_join.proofs.SettingLemmas.{renumbered-empty}
use Rattle.doc_join.proofs.SheetLemmas.{length-first, length-second}

-- the styles of a sheet are in a joined one, each with its kind, its base and its properties renumbered
pub record IsSheetPart (numbers : Renumbering) (sheet joined : Sheet) : Type 0 where
  pub slots : numbers.slots ≡ length sheet.styles
  pub few : length joined.styles ≤ 4094
  pub kinds : (istd : ℕ) → istd < numbers.slots → style_kind_at joined (istd + numbers.before) ≡ style_kind_at sheet
      istd
  pub roots :
      (istd : ℕ) → istd < numbers.slots → base_at sheet istd ≡ None → base_at joined (istd + numbers.before) ≡ None
  pub bases :
      (istd base : ℕ) → istd < numbers.slots → base < numbers.slots → base_at sheet istd ≡ Some base →
      base_at joined (istd + numbers.before) ≡ Some (base + numbers.before)
  pub paragraphs :
      (istd : ℕ) → istd < numbers.slots →
      paragraph_properties (style_at joined (istd + numbers.before)) ≡ paragraph_properties (style_at sheet istd)
  pub characters :
      (istd : ℕ) → istd < numbers.slots →
      character_properties (style_at joined (istd + numbers.before))
      ≡ renumbered_chp numbers (character_properties (style_at sheet istd))

-- ---- one slot

same_kind : (kind : Kind) (map : Properties) → properties_kind (with_characters kind map) ≡ properties_kind kind
same_kind (Para pap chp) map = refl
same_kind (Char chp) map = refl
same_kind (Other stk upxes) map = refl

same_paragraphs : (kind : Kind) (map : Properties) → pap_of_style (with_characters kind map) ≡ pap_of_style kind
same_paragraphs (Para pap chp) map = refl
same_paragraphs (Char chp) map = refl
same_paragraphs (Other stk upxes) map = refl

new_characters : (numbers : Renumbering) (kind : Kind) →
    kind_characters (with_characters kind (renumbered_chp numbers (kind_characters kind)))
    ≡ renumbered_chp numbers (kind_characters kind)
new_characters numbers (Para pap chp) = refl
new_characters numbers (Char chp) = refl
new_characters numbers (Other stk upxes) = renumbered-empty numbers

-- a slot of the first document
first_kind : (numbers : Renumbering) (slot : Option Style) → style_kind_in (slot_from_first numbers slot) ≡
    style_kind_in slot
first_kind numbers None = refl
first_kind numbers (Some style) = same_kind style.kind (renumbered_chp numbers (kind_characters style.kind))

first_base : (numbers : Renumbering) (slot : Option Style) → base_in (slot_from_first numbers slot) ≡ base_in slot
first_base numbers None = refl
first_base numbers (Some style) = refl

first_paragraphs : (numbers : Renumbering) (slot : Option Style) →
    paragraph_properties (slot_from_first numbers slot) ≡ paragraph_properties slot
first_paragraphs numbers None = refl
first_paragraphs numbers (Some style) = same_paragraphs style.kind (renumbered_chp numbers (kind_characters style.kind))

first_characters : (numbers : Renumbering) (slot : Option Style) →
    character_properties (slot_from_first numbers slot) ≡ renumbered_chp numbers (character_properties slot)
first_characters numbers None = renumbered-empty numbers
first_characters numbers (Some style) = new_characters numbers style.kind

-- a slot of the second document
second_kind : (numbers : Renumbering) (istd : ℕ) (slot : Option Style) →
    style_kind_in (slot_from_second numbers istd slot) ≡ style_kind_in slot
second_kind numbers istd None = refl
second_kind numbers istd (Some style) = same_kind style.kind (renumbered_chp numbers (kind_characters style.kind))

second_root : (numbers : Renumbering) (istd : ℕ) (slot : Option Style) → base_in slot ≡ None →
    base_in (slot_from_second numbers istd slot) ≡ None
second_root numbers istd None none = refl
second_root numbers istd (Some style) none = ap (base_behind numbers) none

second_base : (numbers : Renumbering) (istd base : ℕ) (slot : Option Style) → base < numbers.slots →
    base_in slot ≡ Some base → base_in (slot_from_second numbers istd slot) ≡ Some (base + numbers.before)
second_base numbers istd base None within some = absurd (none-some base some)
second_base numbers istd base (Some style) within some =
    ap (base_behind numbers) some
    ∙ ap (λ b. cond b (Some (base + numbers.before)) None) (lt-ltb base numbers.slots within)

second_paragraphs : (numbers : Renumbering) (istd : ℕ) (slot : Option Style) →
    paragraph_properties (slot_from_second numbers istd slot) ≡ paragraph_properties slot
second_paragraphs numbers istd None = refl
second_paragraphs numbers istd (Some style) =
    same_paragraphs style.kind (renumbered_chp numbers (kind_characters style.kind))

second_characters : (numbers : Renumbering) (istd : ℕ) (slot : Option Style) →
    character_properties (slot_from_second numbers istd slot) ≡ renumbered_chp numbers (character_properties slot)
second_characters numbers istd None = renumbered-empty numbers
second_characters numbers istd (Some style) = new_characters numbers style.kind

-- ---- where the slots are

pub first_at : (first second : Sheet) (istd : ℕ) → istd < length first.styles →
    style_at (joined_sheet first second) (istd + 0) ≡ slot_from_first (numbers_of_first first) (style_at first istd)
first_at first second istd within =
    let first_maps = numbers_of_first first in
    let back = slots_from_second (numbers_of_second first second) second (length second.styles) in
    let here : istd + 0 ≡ istd = omega arith in
    ap (λ n. get_or (slots_from_first first_maps first ++ back) n None) here
    ∙ (get_or_append_left (slots_from_first first_maps first) back None istd (omega (
      arith,
      length-first first_maps
          first,
      within,
    ))
    ∙ get_or-map (slot_from_first first_maps) first.styles istd None None within)

pub second_at : (first second : Sheet) (istd : ℕ) → istd < length second.styles →
    style_at (joined_sheet first second) (istd + length first.styles)
    ≡ slot_from_second (numbers_of_second first second) istd (style_at second istd)
second_at first second istd within =
    let first_maps = numbers_of_first first in
    let second_maps = numbers_of_second first second in
    let front = slots_from_first first_maps first in
    let back = slots_from_second second_maps second (length second.styles) in
    let here : istd + length first.styles ≡ length front + istd = omega (arith, length-first first_maps first) in
    ap (λ n. get_or (front ++ back) n None) here
    ∙ (get_or-append-add front back istd None
    ∙ get_or-map-range_with_len (λ i. slot_from_second second_maps i (style_at second i)) 0 (length second.styles) istd
    istd
    None within (omega arith))

pub length-joined : (first second : Sheet) →
    length (joined_sheet first second).styles ≡ length first.styles + length second.styles
length-joined first second =
    let first_maps = numbers_of_first first in
    let second_maps = numbers_of_second first second in
    omega (
      arith,
      length-append (slots_from_first first_maps first) (slots_from_second second_maps second (length second.styles)),
      length-first first_maps first,
      length-second second_maps second (length second.styles),
    )

-- ---- both sheets are parts of it

pub first_part : (first second : Sheet) → length first.styles + length second.styles ≤ 4094 →
    IsSheetPart (numbers_of_first first) first (joined_sheet first second)
first_part first second few =
    let first_maps = numbers_of_first first in
    record {
      slots = refl;
      few = omega (arith, length-joined first second, few);
      kinds = λ istd within. ap style_kind_in (first_at first second istd within) ∙ first_kind first_maps (style_at
          first
          istd);
      roots = λ istd within none.
          ap base_in (first_at first second istd within) ∙ (first_base first_maps (style_at first istd) ∙ none);
      bases = λ istd base within base_within some.
          let here : base ≡ base + 0 = omega arith in
          ap base_in (first_at first second istd within)
          ∙ (first_base first_maps (style_at first istd) ∙ (some ∙ ap (λ n. Some n) here));
      paragraphs = λ istd within.
          ap paragraph_properties (first_at first second istd within) ∙ first_paragraphs first_maps (style_at first
          istd);
      characters = λ istd within.
          ap character_properties (first_at first second istd within) ∙ first_characters first_maps (style_at first
          istd);
    }

pub second_part : (first second : Sheet) → length first.styles + length second.styles ≤ 4094 →
    IsSheetPart (numbers_of_second first second) second (joined_sheet first second)
second_part first second few =
    let second_maps = numbers_of_second first second in
    record {
      slots = refl;
      few = omega (arith, length-joined first second, few);
      kinds = λ istd within.
          ap style_kind_in (second_at first second istd within) ∙ second_kind second_maps istd (style_at second istd);
      roots = λ istd within none.
          ap base_in (second_at first second istd within) ∙ second_root second_maps istd (style_at second istd) none;
      bases = λ istd base within base_within some.
          ap base_in (second_at first second istd within)
          ∙ second_base second_maps istd base (style_at second istd) base_within some;
      paragraphs = λ istd within.
          ap paragraph_properties (second_at first second istd within)
          ∙ second_paragraphs second_maps istd (style_at second istd);
      characters = λ istd within.
          ap character_properties (second_at first second istd within)
          ∙ second_characters second_maps istd (style_at second istd);
    }

-- ---- chains

-- the styles of a chain are there
pub chain_there : (numbers : Renumbering) (sheet joined : Sheet) (istd : ℕ) (chain : List ℕ) →
    IsSheetPart numbers sheet joined → IsBaseChain sheet istd chain → (i : ℕ) → i < length chain →
    slice_index chain i < numbers.slots
chain_there numbers sheet joined istd chain part bases i within =
    let kind = bases.kind i within in
    let some = kind.properties in
    let same = kind.same in
    let here = there sheet (slice_index chain i) (omega (arith, some, same)) in
    omega (arith, here, part.slots)

pub chain_moved : (numbers : Renumbering) (sheet joined : Sheet) (istd : ℕ) (chain : List ℕ) →
    IsSheetPart numbers sheet joined → IsBaseChain sheet istd chain →
    IsBaseChain joined (istd + numbers.before) (map (λ n. n + numbers.before) chain)
chain_moved numbers sheet joined istd chain part bases =
    let move : ℕ → ℕ = λ n. n + numbers.before in
    let long = length-map chain move in
    let at : (i : ℕ) → i < length chain → slice_index (map move chain) i ≡ slice_index chain i + numbers.before =
    λ i within. get_or-map move chain i 0 0 within in
    let inside : (i : ℕ) → i < length chain → slice_index chain i < numbers.slots =
    chain_there numbers sheet joined istd chain part bases in
    let some = bases.some in
    let kind_moved : (i : ℕ) → i < length chain →
    style_kind_at joined (slice_index (map move chain) i) ≡ style_kind_at sheet (slice_index chain i) =
    λ i within. ap (style_kind_at joined) (at i within) ∙ part.kinds (slice_index chain i) (inside i within) in
    let end : length chain - 1 < length chain = omega (arith, some) in
    let own : istd < numbers.slots =
    subst (λ n. n < numbers.slots) bases.last (inside (length chain - 1) end) in
    record {
      some = omega (arith, long, some);
      last =
          ap (λ n. slice_index (map move chain) (n - 1)) long
          ∙ (at (length chain - 1) end ∙ ap move bases.last);
      root =
          ap (base_at joined) (at 0 (omega (arith, some)))
          ∙ part.roots (slice_index chain 0) (inside 0 (omega (arith, some))) bases.root;
      links = λ i within.
          let low : i < length chain = omega (arith, long, within) in
          let next : i + 1 < length chain = omega (arith, long, within) in
          ap (base_at joined) (at (i + 1) next)
          ∙ (part.bases (slice_index chain (i + 1)) (slice_index chain i) (inside (i + 1) next) (inside i low)
          (bases.links i next)
          ∙ ap (λ n. Some n) (sym (at i low)));
      kind = λ i within.
          let low : i < length chain = omega (arith, long, within) in
          let kind = bases.kind i low in
          let properties = kind.properties in
          record {
            properties = omega (arith, part.kinds istd own, properties);
            same = kind_moved i low ∙ (kind.same ∙ sym (part.kinds istd own));
          };
      once = λ i j before within same.
          let high : j < length chain = omega (arith, long, within) in
          let low : i < length chain = omega (arith, high, before) in
          bases.once i j before high (let e = sym (at i low) ∙ (same ∙ at j high) in omega (arith, e));
    }
