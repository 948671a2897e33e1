-- The notes that the items of a text refer to.
use Rattle.std.proofs.Common.{◌≡◌, ◌∙◌, ap, sym, refl, subst, ℕ, zero, suc, ◌+◌, ◌<◌, ◌≤◌, ◌^◌, inl, inr, cond}
use Rattle.std.proofs.Common.{List, [], ◌∷◌, ◌-◌, length, map, take, arith, Option, Some, None, slice_get}
use Rattle.std.specs.Prelude.{All, is_some, option_map, slice_range}
use Rattle.run_lists.specs.declared.runs.Run.{Run}
use Rattle.run_lists.specs.Spread.{expanded}
use Rattle.std.specs.Option.{unwrap_or}
use Rattle.std.specs.List.{count_by}
use Rattle.std.proofs.lemmas.Bool.{cases_lt}
use Rattle.std.proofs.lemmas.Option.{slice_get_past, get_or_from_slice_get}
use Rattle.std.proofs.lemmas.List.{take_all, length-map}
use Rattle.std.proofs.lemmas.List.Elements.{All-head, All-tail, All-cons, All-weaker}
use Rattle.std.proofs.lemmas.List.Sums.{sum_by-cons, sum_by_more}
use Rattle.prop_map.specs.Settings.{Properties}
use Rattle.doc_bits.proofs.Public.{there_is, from_map, get-map}
use Rattle.doc_model.specs.declared.item.Item.{Item}
use Rattle.doc_model.specs.declared.item.NoteKind.{NoteKind}
use Rattle.doc_model.specs.Document.{HasPropertyMaps, IsFormedItem, IsFormedText}
use Rattle.doc_columns.specs.declared.attached.Attached.{Attached}
use Rattle.doc_columns.specs.Attached.{attached_of}
use Rattle.doc_columns.specs.Columns.{item_of, items_of}
use Rattle.further_notes.specs.Sources.{note_kinds, note_kind_at, notes_before}
use Rattle.doc_mends.specs.declared.mends.NoteStory.{NoteStory}
use Rattle.further_notes.specs.Splices.{item_noted, attached_noted, unit_with, with_kinds, text_noted}

-- ---- the note of an item

pub kind_there : (text : List Item) (at : ℕ) (attached : Attached) →
    slice_get (map attached_of text) at ≡ Some attached → slice_get (note_kinds text) at ≡ Some attached.note
kind_there text at attached is =
    let item = from_map attached_of text at attached is in
    get-map (λ (i : Item). i.note) text at item.0 item.1.0
    ∙ ap (λ (a : Attached). Some a.note) item.1.1

-- ---- how many references are before an item

pub one_counted : (kind : Option NoteKind) → count_by is_some (kind ∷ []) ≡ cond (is_some kind) 1 0
one_counted kind =
    let one = sum_by-cons (λ (k : Option NoteKind). cond (is_some k) 1 0) kind [] in omega (arith, one)

pub before_more : (kinds : List (Option NoteKind)) (at : ℕ) →
    notes_before kinds (at + 1) ≡ notes_before kinds at + count_by is_some (note_kind_at kinds at ∷ [])
before_more kinds at = elim (cases_lt at (length kinds)) [
  | inl low ↦
      let it = there_is kinds at low in
      let kind : Option NoteKind = it.0 in
      let here : note_kind_at kinds at ≡ kind = ap (λ (o : Option (Option NoteKind)). unwrap_or o None) it.1 in
      let more : notes_before kinds (at + 1) ≡ notes_before kinds at + cond (is_some kind) 1 0 =
      sum_by_more (λ (k : Option NoteKind). cond (is_some k) 1 0) kinds at kind low
      ∙ ap (λ (k : Option NoteKind). notes_before kinds at + cond (is_some k) 1 0)
      (get_or_from_slice_get kinds at kind kind it.1) in
      let one : count_by is_some (note_kind_at kinds at ∷ []) ≡ cond (is_some kind) 1 0 =
      ap (λ (k : Option NoteKind). count_by is_some (k ∷ [])) here ∙ one_counted kind in
      omega (arith, more, one)
  | inr past ↦
      let here : note_kind_at kinds at ≡ None =
      ap (λ (o : Option (Option NoteKind)). unwrap_or o None) (slice_get_past kinds at past) in
      let one : count_by is_some (note_kind_at kinds at ∷ []) ≡ 0 =
      ap (λ (k : Option NoteKind). count_by is_some (k ∷ [])) here ∙ one_counted None in
      let all : notes_before kinds at ≡ count_by is_some kinds = ap (count_by is_some) (take_all at kinds past) in
      let more : notes_before kinds (at + 1) ≡ count_by is_some kinds =
      ap (count_by is_some) (take_all (at + 1) kinds (omega (arith, past))) in
      omega (arith, one, all, more)
]

-- ---- entries changed by kinds

pub changed_at_place : {A : Type 0} (change : Option NoteKind → A → A) (kinds : List (Option NoteKind)) (xs : List A)
    (at : ℕ) (x : A) → ((y : A) → change None y ≡ y) → slice_get xs at ≡ Some x →
    slice_get (with_kinds change kinds xs) at ≡ Some (change (note_kind_at kinds at) x)
unfolding with_kinds
changed_at_place change kinds [] at x plain is = absurd (cc is)
changed_at_place {A = A} change [] (y ∷ xs) at x plain is = is ∙ ap (λ (z : A). Some z) (sym (plain x))
changed_at_place {A = A} change (kind ∷ kinds) (y ∷ xs) zero x plain is =
    ap (λ (o : Option A). option_map (change kind) o) is
changed_at_place change (kind ∷ kinds) (y ∷ xs) (suc at) x plain is = changed_at_place change kinds xs at x plain is

pub length-with_kinds : {A : Type 0} (change : Option NoteKind → A → A) (kinds : List (Option NoteKind))
    (xs : List A) → length (with_kinds change kinds xs) ≡ length xs
unfolding with_kinds
length-with_kinds change kinds [] = refl
length-with_kinds change [] (x ∷ xs) = refl
length-with_kinds change (kind ∷ kinds) (x ∷ xs) = ap suc (length-with_kinds change kinds xs)

All-with_kinds : {A : Type 0} (P : A → Type 0) (change : Option NoteKind → A → A) (kinds : List (Option NoteKind))
    (xs : List A) → ((kind : Option NoteKind) (x : A) → P x → P (change kind x)) → All P xs →
    All P (with_kinds change kinds xs)
unfolding with_kinds
All-with_kinds P change kinds [] keeps all = all
All-with_kinds P change [] (x ∷ xs) keeps all = all
All-with_kinds P change (kind ∷ kinds) (x ∷ xs) keeps all =
    All-cons P (change kind x) (with_kinds change kinds xs) (keeps kind x (All-head P x xs all))
    (All-with_kinds P change kinds xs keeps (All-tail P x xs all))

-- ---- items

-- what is beside an item changes as the item does, and so does its unit
noted_item : (story : NoteStory) (kind : Option NoteKind) (item : Item) →
    item_of (unit_with story kind item.unit) item.chp (attached_noted kind (attached_of item))
    ≡ item_noted story kind item
noted_item story None item = refl
noted_item story (Some kind) item = refl

-- the items of a text with these units, and these things beside them
items_by : List Item → (units : List ℕ) → (attachments : List Attached) → List Item
items_by text units attachments = items_of units (map (λ (item : Item). item.chp) text) attachments

units_in : List Item → List ℕ
units_in text = map (λ (item : Item). item.unit) text

plain_items : (text : List Item) → items_by text (units_in text) (map attached_of text) ≡ text
unfolding items_by units_in
plain_items [] = refl
plain_items (item ∷ text) = ap (λ (t : List Item). item ∷ t) (plain_items text)

noted_items : (story : NoteStory) (kinds : List (Option NoteKind)) (text : List Item) →
    items_by text (with_kinds (unit_with story) kinds (units_in text))
    (with_kinds attached_noted kinds (map attached_of text))
    ≡ text_noted story kinds text
unfolding items_by units_in with_kinds
noted_items story kinds [] = refl
noted_items story [] (item ∷ text) = ap (λ (t : List Item). item ∷ t) (plain_items text)
noted_items story (kind ∷ kinds) (item ∷ text) =
    ap
    (λ (x : Item). x ∷ items_by text (with_kinds (unit_with story) kinds (units_in text))
    (with_kinds attached_noted kinds (map attached_of text)))
    (noted_item story kind item)
    ∙ ap (λ (t : List Item). item_noted story kind item ∷ t) (noted_items story kinds text)

pub text_of_columns : (story : NoteStory) (kinds : List (Option NoteKind)) (text : List Item) (units : List ℕ)
    (chps : List Properties) (attachments : List Attached) →
    units ≡ with_kinds (unit_with story) kinds (map (λ item. item.unit) text) →
    chps ≡ map (λ item. item.chp) text → attachments ≡ with_kinds attached_noted kinds (map attached_of text) →
    items_of units chps attachments ≡ text_noted story kinds text
unfolding items_by units_in
text_of_columns story kinds text units chps attachments a b c =
    ap (λ (l : List ℕ). items_of l chps attachments) a
    ∙ (ap (λ (l : List Properties). items_of (with_kinds (unit_with story) kinds (units_in text)) l attachments) b
    ∙ (ap (items_by text (with_kinds (unit_with story) kinds (units_in text))) c ∙ noted_items story kinds text))

-- the properties are copied whole
pub chps_are : (text : List Item) (runs : List (Run Properties)) (copy : List Properties) (len : ℕ) →
    expanded runs ≡ map (λ item. item.chp) text → len ≡ length text → copy ≡ slice_range (expanded runs) 0 len →
    copy ≡ map (λ item. item.chp) text
chps_are text runs copy len are is copied =
    let none : len - 0 ≡ len = omega arith in
    let long : length (expanded runs) ≡ length text = ap length are ∙ length-map text (λ (item : Item). item.chp) in
    copied
    ∙ (ap (λ (n : ℕ). take n (expanded runs)) none
    ∙ (take_all len (expanded runs) (omega (arith, long, is)) ∙ are))

-- their maps stay
kept_maps : (story : NoteStory) (kind : Option NoteKind) (item : Item) → HasPropertyMaps item →
    HasPropertyMaps (item_noted story kind item)
kept_maps story None item maps = maps
kept_maps story (Some kind) item maps = record { chp = maps.chp; pap = maps.pap; sect = maps.sect }

pub noted_maps : (story : NoteStory) (kinds : List (Option NoteKind)) (text : List Item) → IsFormedText text →
    All HasPropertyMaps (text_noted story kinds text)
noted_maps story kinds text formed =
    All-with_kinds HasPropertyMaps (item_noted story) kinds text (kept_maps story)
    (All-weaker IsFormedItem HasPropertyMaps (λ item h. h.maps) text formed.each)
