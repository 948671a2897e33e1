-- What is found at the CPs of a saved document: sections, field bytes and kinds of notes are those of its items.
use Rattle.std.specs.Prelude.{slice_get, IsSome}
use Rattle.std.specs.Option.{option_map}
use Rattle.std.proofs.lemmas.Option.{slice_get_within, same_Some, none-some}
use Rattle.std.proofs.Common.{◌≡◌, ◌∙◌, refl, sym, ap, subst, ℕ, zero, suc, ◌+◌, ◌-◌, ◌≤◌, List, [], ◌∷◌, ◌++◌}
use Rattle.std.proofs.Common.{length, map, drop, Option, Some, None, arith, inl, inr}
use Rattle.std.proofs.lemmas.Bool.{cases_eq}
use Rattle.doc_bits.proofs.Public.{map-map}
use Rattle.prop_map.specs.Settings.{Properties}
use Rattle.doc_parts.specs.declared.lists.Sed.{Sed}
use Rattle.doc_parts.specs.declared.lists.Fld.{Fld}
use Rattle.doc_parts.specs.declared.lists.NoteRef.{NoteRef}
use Rattle.doc_model.specs.declared.item.Item.{Item}
use Rattle.doc_model.specs.declared.item.NoteKind.{NoteKind}
use Rattle.doc_model.specs.declared.item.NoteKind.TheVariants.{Auto, Custom}
use Rattle.doc_model.specs.Entries.{entry_at_cp}
use Rattle.doc_model.specs.Collected.{entry_before, collected, field_character, fields_of, refs_of, sections_of}
use Rattle.doc_model.specs.Collected.{is_auto}
use Rattle.doc_model.proofs.Public.{entry_here, entry_later, none_below, entry_of_item, found_before}
use Rattle.doc_read.specs.Sections.{section_lasts}
use Rattle.doc_read.specs.Marked.{story_bytes, note_kind, note_kind_entries}
use Rattle.doc_model.specs.TextLists.{starts_from}

-- ---- entries of joined lists

pub entry_second : {A : Type 0} (xs ys : List (ℕ × A)) (cp : ℕ) → entry_at_cp xs cp ≡ None →
    entry_at_cp (xs ++ ys) cp ≡ entry_at_cp ys cp
entry_second [] ys cp none = refl
entry_second (x ∷ xs) ys cp none = elim (cases_eq x.0 cp) [
  | inl here ↦ absurd (none-some x.1 (sym none ∙ entry_here x.0 cp x.1 xs here))
  | inr other ↦
      entry_later x.0 cp x.1 (xs ++ ys) other ∙ entry_second xs ys cp (sym (entry_later x.0 cp x.1 xs other) ∙ none)
]

pub entry_first : {A : Type 0} (xs ys : List (ℕ × A)) (cp : ℕ) (o : Option A) → entry_at_cp xs cp ≡ o →
    entry_at_cp ys cp ≡ None → entry_at_cp (xs ++ ys) cp ≡ o
entry_first [] ys cp o first none = none ∙ first
entry_first (x ∷ xs) ys cp o first none = elim (cases_eq x.0 cp) [
  | inl here ↦ entry_here x.0 cp x.1 (xs ++ ys) here ∙ (sym (entry_here x.0 cp x.1 xs here) ∙ first)
  | inr other ↦
      entry_later x.0 cp x.1 (xs ++ ys) other
      ∙ entry_first xs ys cp o (sym (entry_later x.0 cp x.1 xs other) ∙ first) none
]

-- the entries of three texts, of which the later ones begin at these CPs; there may be more CPs between them
abbrev pub story_entries : {A : Type 0} → (Item → Option A) → List Item → List Item → List Item → ℕ → ℕ → List (ℕ × A)
story_entries what main notes heads a b =
    collected what 0 main ++ (collected what a notes ++ collected what b heads)

-- what an item of each of them has is found at its CP
pub record AreStoriesRead {A : Type 0} (what : Item → Option A) (main notes heads : List Item) (a b : ℕ) :
    Type 0 where
  pub main_is :
      (i : ℕ) (item : Item) → slice_get main i ≡ Some item →
      entry_at_cp (story_entries what main notes heads a b) (0 + i) ≡ what item
  pub notes_are :
      (i : ℕ) (item : Item) → slice_get notes i ≡ Some item →
      entry_at_cp (story_entries what main notes heads a b) (a + i) ≡ what item
  pub heads_are :
      (i : ℕ) (item : Item) → slice_get heads i ≡ Some item →
      entry_at_cp (story_entries what main notes heads a b) (b + i) ≡ what item

pub stories_read : {A : Type 0} (what : Item → Option A) (main notes heads : List Item) (a b : ℕ) →
    length main ≤ a → a + length notes ≤ b → AreStoriesRead what main notes heads a b
stories_read what main notes heads a b first next =
    let one = collected what 0 main in
    let two = collected what a notes in
    let three = collected what b heads in
    record {
      main_is = λ i item here.
          let within = slice_get_within main i item here in
          entry_first one (two ++ three) (0 + i) (what item) (entry_of_item what 0 main i item here)
          (entry_second two three (0 + i) (none_below what a notes (0 + i) (omega (arith, within, first)))
          ∙ none_below what b heads (0 + i) (omega (arith, within, first, next)));
      notes_are = λ i item here.
          let within = slice_get_within notes i item here in
          entry_second one (two ++ three) (a + i) (found_before what 0 main (a + i) (omega (arith, first)))
          ∙ entry_first two three (a + i) (what item) (entry_of_item what a notes i item here)
          (none_below what b heads (a + i) (omega (arith, within, next)));
      heads_are = λ i item here.
          entry_second one (two ++ three) (b + i) (found_before what 0 main (b + i) (omega (arith, first, next)))
          ∙ (entry_second two three (b + i) (found_before what a notes (b + i) (omega (arith, next)))
          ∙ entry_of_item what b heads i item here);
    }

-- ---- field characters

-- a field of an item that is at a CP, in its story and in the whole text
field_before : (o : Option ℕ) (unit begin cp at : ℕ) (rest : List (ℕ × (ℕ × ℕ))) (others : List (ℕ × ℕ)) →
    at ≡ begin + cp →
    map (λ (e : ℕ × (ℕ × ℕ)). (begin + e.0, e.1.1)) rest ≡ others →
    map (λ (e : ℕ × (ℕ × ℕ)). (begin + e.0, e.1.1)) (entry_before (option_map (λ byte. (unit, byte)) o) cp rest)
    ≡ entry_before o at others
field_before None unit begin cp at rest others e same = same
field_before (Some byte) unit begin cp at rest others e same =
    ap (λ n. (n, byte) ∷ map (λ (e : ℕ × (ℕ × ℕ)). (begin + e.0, e.1.1)) rest) (sym e) ∙ ap (λ l. (at, byte) ∷ l) same

fields_from : (begin cp at : ℕ) (items : List Item) → at ≡ begin + cp →
    map (λ (e : ℕ × (ℕ × ℕ)). (begin + e.0, e.1.1)) (collected field_character cp items)
    ≡ collected (λ item. item.fld) at items
unfolding collected
fields_from begin cp at [] e = refl
fields_from begin cp at (item ∷ items) e =
    field_before item.fld item.unit begin cp at (collected field_character (cp + 1) items)
    (collected (λ item. item.fld) (at + 1) items) e (fields_from begin (cp + 1) (at + 1) items (omega (arith, e)))

pub story_fields : (begin : ℕ) (items : List Item) →
    story_bytes begin (fields_of items) ≡ collected (λ item. item.fld) begin items
story_fields begin items =
    let make : ℕ × (ℕ × ℕ) → Fld = λ e. record { cp = e.0; unit = e.1.0; byte = e.1.1 } in
    map-map (λ (fld : Fld). (begin + fld.cp, fld.byte)) make (collected field_character 0 items)
    ∙ fields_from begin 0 begin items (omega arith)

-- ---- kinds of notes

kind_back : (kind : NoteKind) → note_kind (is_auto kind) ≡ kind
kind_back Auto = refl
kind_back Custom = refl

kinds_back : (entries : List (ℕ × NoteKind)) →
    map (λ (e : ℕ × NoteKind). (e.0, note_kind (is_auto e.1))) entries ≡ entries
kinds_back [] = refl
kinds_back (e ∷ entries) =
    ap (λ k. (e.0, k) ∷ map (λ (e : ℕ × NoteKind). (e.0, note_kind (is_auto e.1))) entries) (kind_back e.1)
    ∙ ap (λ l. e ∷ l) (kinds_back entries)

pub kinds_from : (main : List Item) → note_kind_entries (refs_of main) ≡ collected (λ item. item.note) 0 main
kinds_from main =
    let note : Item → Option NoteKind = λ item. item.note in
    let make : ℕ × NoteKind → NoteRef = λ e. record { cp = e.0; auto = is_auto e.1 } in
    map-map (λ (ref : NoteRef). (ref.cp, note_kind ref.auto)) make (collected note 0 main)
    ∙ kinds_back (collected note 0 main)

-- ---- sections

-- the last of the sections ends with the last CP
abbrev EndsAt : ℕ → List (ℕ × Properties) → Type 0
EndsAt len [] = ⊥
EndsAt len (section ∷ []) = section.0 + 1 ≡ len
EndsAt len (section ∷ (next ∷ sections)) = EndsAt len (next ∷ sections)

lasts_of : (start len : ℕ) (sections : List (ℕ × Properties)) → EndsAt len sections →
    map (λ end. end - 1) (drop 1 (starts_from start sections) ++ len ∷ []) ≡ map (λ section. section.0) sections
unfolding starts_from
lasts_of start len [] ends = absurd ends
lasts_of start len (section ∷ []) ends =
    let e : len - 1 ≡ section.0 = omega (arith, ends) in ap (λ n. n ∷ []) e
lasts_of start len (section ∷ (next ∷ sections)) ends =
    let e : section.0 + 1 - 1 ≡ section.0 = omega arith in
    let later = lasts_of (section.0 + 1) len (next ∷ sections) ends in
    ap (λ n. n ∷ map (λ end. end - 1) (drop 1 (starts_from (section.0 + 1) (next ∷ sections)) ++ len ∷ [])) e
    ∙ ap (λ l. section.0 ∷ l) later

ends_before : (o : Option Properties) (cp len : ℕ) (rest : List (ℕ × Properties)) → EndsAt len rest →
    EndsAt len (entry_before o cp rest)
ends_before None cp len rest ends = ends
ends_before (Some properties) cp len [] ends = absurd ends
ends_before (Some properties) cp len (next ∷ rest) ends = ends

ends_one : (o : Option Properties) (cp len : ℕ) → len ≡ cp + 1 → IsSome o → EndsAt len (entry_before o cp [])
ends_one None cp len e some = absurd (cc (some))
ends_one (Some properties) cp len e some = sym e

ends_collected : (from len : ℕ) (items : List Item) (k : ℕ) (item : Item) → len ≡ from + length items →
    k + 1 ≡ length items → slice_get items k ≡ Some item → IsSome item.sect →
    EndsAt len (collected (λ item. item.sect) from items)
unfolding collected
ends_collected from len [] k item e last here some = absurd (omega (arith, last))
ends_collected from len (first ∷ []) zero item e last here some =
    ends_one first.sect from len (omega (arith, e))
    (subst (λ (i : Item). IsSome i.sect) (sym (same_Some first item here)) some)
ends_collected from len (first ∷ []) (suc k) item e last here some = absurd (omega (arith, last))
ends_collected from len (first ∷ (next ∷ items)) zero item e last here some = absurd (omega (arith, last))
ends_collected from len (first ∷ (next ∷ items)) (suc k) item e last here some =
    ends_before first.sect from len (collected (λ item. item.sect) (from + 1) (next ∷ items))
    (ends_collected (from + 1) len (next ∷ items) k item (omega (arith, e)) (omega (arith, last)) here some)

-- the last CPs of the sections are those of the items at which sections end
pub lasts_are : (main : List Item) (seds : List Sed) (len k : ℕ) (item : Item) → len ≡ length main →
    k + 1 ≡ length main → slice_get main k ≡ Some item → IsSome item.sect →
    map (λ sed. sed.start) seds ≡ starts_from 0 (sections_of main) →
    section_lasts seds len ≡ map (λ section. section.0) (sections_of main)
lasts_are main seds len k item e last here some starts =
    ap (λ l. map (λ end. end - 1) (drop 1 l ++ len ∷ [])) starts
    ∙ lasts_of 0 len (sections_of main) (ends_collected 0 len main k item (omega (arith, e)) last here some)
