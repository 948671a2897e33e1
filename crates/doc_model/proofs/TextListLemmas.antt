-- What the items of texts have, listed by CPs: it ascends. Where sections begin, where texts are cut, and texts joined.
use Rattle.std.specs.Prelude.{IsSome, slice_index, slice_get}
use Rattle.std.proofs.Common.{◌⊎◌, subst, inl, inr, take, All, ◌≡◌, ◌∙◌, refl, sym, ap, ℕ, zero, suc, ◌+◌, ◌<◌, ◌≤◌}
use Rattle.std.proofs.Common.{List, [], ◌∷◌, ◌++◌, length, map, drop, Option, Some, None, arith}
use Rattle.std.proofs.lemmas.Grind.{flat_map-append}
use Rattle.std.proofs.lemmas.List.{nil_from_length, length-append, append-nil, take-append-drop}
use Rattle.std.proofs.lemmas.List.Concat.{flat_map-cons}
use Rattle.std.proofs.lemmas.List.Elements.{All-nil, All-append}
use Rattle.std.proofs.lemmas.Option.{same_Some, none-some, slice_get_within}
use Rattle.doc_bits.proofs.Public.{in_front, in_back}
use Rattle.prop_map.specs.Settings.{Properties}
use Rattle.doc_parts.specs.Cps.{AreCpsInOrder}
use Rattle.doc_parts.specs.Stories.{cut_cps}
use Rattle.doc_parts.proofs.Public.{Rise, rise_lower, Climb, climb_lower, climb_in_order}
use Rattle.doc_model.specs.declared.item.Item.{Item}
use Rattle.doc_model.specs.Collected.{joined_texts, entry_before, collected, cuts_from}
use Rattle.doc_model.specs.TextLists.{cuts_of, starts_from}
use Rattle.doc_model.proofs.StreamLemmas.{take_next}

-- ---- what items have, by their CPs

rise_before : {A : Type 0} (o : Option A) (cp high : ℕ) (rest : List (ℕ × A)) → cp < high →
    Rise (cp + 1) high (map (λ entry. entry.0) rest) → Rise cp high (map (λ entry. entry.0) (entry_before o cp rest))
rise_before None cp high rest below rise =
    rise_lower (cp + 1) cp high (map (λ entry. entry.0) rest) (omega arith) rise
rise_before (Some value) cp high rest below rise = (omega arith, (below, rise))

pub collected_rise : {A : Type 0} (what : Item → Option A) (from high : ℕ) (items : List Item) →
    from + length items ≤ high → Rise from high (map (λ entry. entry.0) (collected what from items))
unfolding collected
collected_rise what from high [] within = tt
collected_rise what from high (item ∷ items) within =
    rise_before (what item) from high (collected what (from + 1) items) (omega arith)
    (collected_rise what (from + 1) high items (omega arith))

-- the item that an entry comes from
pub record IsCollected {A : Type 0} (what : Item → Option A) (from : ℕ) (items : List Item) (entry : ℕ × A) :
    Type 0 where
  pub index : ℕ
  pub item : Item
  pub here : slice_get items index ≡ Some item
  pub at : entry.0 ≡ from + index
  pub has : what item ≡ Some entry.1

-- an entry is that of the first item, or one of the rest
first_or_rest : {A : Type 0} (o : Option A) (from : ℕ) (rest : List (ℕ × A)) (k : ℕ) (entry : ℕ × A) →
    slice_get (entry_before o from rest) k ≡ Some entry →
    ((o ≡ Some entry.1) × (entry.0 ≡ from)) ⊎ ((n : ℕ) × (slice_get rest n ≡ Some entry))
first_or_rest None from rest k entry here = inr (k, here)
first_or_rest {A = A} (Some value) from rest zero entry here =
    let first : ℕ × A = (from, value) in
    let same : first ≡ entry = same_Some first entry here in
    inl (ap (λ (e : ℕ × A). Some e.1) same, ap (λ (e : ℕ × A). e.0) (sym same))
first_or_rest (Some value) from rest (suc k) entry here = inr (k, here)

pub collected_from : {A : Type 0} (what : Item → Option A) (from : ℕ) (items : List Item) (k : ℕ) (entry : ℕ × A) →
    slice_get (collected what from items) k ≡ Some entry → IsCollected what from items entry
unfolding collected
collected_from what from [] k entry here = absurd (none-some entry here)
collected_from what from (item ∷ items) k entry here =
    elim (first_or_rest (what item) from (collected what (from + 1) items) k entry here) [
      | inl first ↦ record {
        index = zero;
        item = item;
        here = refl;
        at = let e : from ≡ from + zero = omega arith in first.1 ∙ e;
        has = first.0;
      }
      | inr later ↦
          let found = collected_from what (from + 1) items later.0 entry later.1 in
          record {
            index = suc found.index;
            item = found.item;
            here = found.here;
            at = let e : from + 1 + found.index ≡ from + suc found.index = omega arith in found.at ∙ e;
            has = found.has;
          }
    ]

before_longer : {A : Type 0} (o : Option A) (cp : ℕ) (rest : List (ℕ × A)) →
    length rest ≤ length (entry_before o cp rest)
before_longer None cp rest = omega arith
before_longer (Some value) cp rest = omega arith

before_some : {A : Type 0} (o : Option A) (cp : ℕ) (rest : List (ℕ × A)) → IsSome o →
    0 < length (entry_before o cp rest)
before_some None cp rest some = absurd (cc (some))
before_some (Some value) cp rest some = omega arith

-- where an item has such a thing there is an entry
pub some_collected : {A : Type 0} (what : Item → Option A) (from : ℕ) (items : List Item) (k : ℕ) (item : Item) →
    slice_get items k ≡ Some item → IsSome (what item) → 0 < length (collected what from items)
unfolding collected
some_collected what from [] k item here some = absurd (none-some item here)
some_collected what from (first ∷ items) zero item here some =
    before_some (what first) from (collected what (from + 1) items)
    (subst (λ i. IsSome (what i)) (sym (same_Some first item here)) some)
some_collected what from (first ∷ items) (suc k) item here some =
    let later = some_collected what (from + 1) items k item here some in
    let longer = before_longer (what first) from (collected what (from + 1) items) in
    omega (arith, later, longer)

-- ---- where sections begin

pub starts_rise : (start high : ℕ) (sections : List (ℕ × Properties)) →
    Rise start high (map (λ section. section.0) sections) → Rise start high (starts_from start sections)
unfolding starts_from
starts_rise start high [] rise = tt
starts_rise start high (section ∷ sections) rise =
    let first = rise.0 in
    let below = rise.1.0 in (
      omega arith,
      (
        omega arith,
        rise_lower (section.0 + 1) (start + 1) high (starts_from (section.0 + 1) sections)
            (omega arith) (starts_rise (section.0 + 1) high sections rise.1.1),
      ),
    )

pub first_start : (sections : List (ℕ × Properties)) → slice_index (starts_from 0 sections) 0 ≡ 0
unfolding starts_from
first_start [] = refl
first_start (section ∷ sections) = refl

-- a later section begins right behind the last CP of the one before it
pub next_start : (start : ℕ) (sections : List (ℕ × Properties)) (k : ℕ) (section : ℕ × Properties) →
    slice_get sections k ≡ Some section → suc k < length sections →
    slice_index (starts_from start sections) (suc k) ≡ section.0 + 1
unfolding starts_from
next_start start [] k section here below = absurd (omega arith)
next_start start (first ∷ []) k section here below = absurd (omega arith)
next_start start (first ∷ (second ∷ sections)) zero section here below =
    ap (λ (s : ℕ × Properties). s.0 + 1) (same_Some first section here)
next_start start (first ∷ (second ∷ sections)) (suc k) section here below =
    next_start (first.0 + 1) (second ∷ sections) k section here (omega arith)

-- ---- the cuts of texts

pub length-joined : (text : List Item) (texts : List (List Item)) →
    length (joined_texts (text ∷ texts)) ≡ length text + length (joined_texts texts)
length-joined text texts = length-append text (joined_texts texts)

cuts_climb : (cp high : ℕ) (texts : List (List Item)) → cp + length (joined_texts texts) ≤ high →
    Climb cp high (cuts_from cp texts)
unfolding cuts_from
cuts_climb cp high [] within = (omega arith, (omega arith, tt))
cuts_climb cp high (text ∷ texts) within =
    let len = length-joined text texts in
    let later = cuts_climb (cp + length text) high texts (omega arith) in (
      omega arith,
      (omega arith, climb_lower (cp + length text) cp high (cuts_from (cp + length text) texts) (omega arith) later),
    )

first_cut : (texts : List (List Item)) → slice_index (cuts_from 0 texts) 0 ≡ 0
unfolding cuts_from
first_cut [] = refl
first_cut (text ∷ texts) = refl

pub cuts_in_order : (joined : List Item) (texts : List (List Item)) (len : ℕ) → joined ≡ joined_texts texts →
    length joined ≤ len → AreCpsInOrder (cut_cps len) (cuts_of joined texts)
cuts_in_order [] texts len same within = λ k below. absurd (omega arith)
cuts_in_order (item ∷ items) texts len same within =
    let most : length (joined_texts texts) ≤ len = omega (arith, within, ap length same) in
    climb_in_order len (cuts_from 0 texts) (cuts_climb 0 len texts (omega arith)) (first_cut texts)

-- the cut before a text is the number of items before it
pub cut_at : (cp : ℕ) (texts : List (List Item)) (k : ℕ) → k ≤ length texts →
    slice_index (cuts_from cp texts) k ≡ cp + length (joined_texts (take k texts))
unfolding cuts_from
cut_at cp [] zero within = omega arith
cut_at cp [] (suc k) within = absurd (omega arith)
cut_at cp (text ∷ texts) zero within = omega arith
cut_at cp (text ∷ texts) (suc k) within =
    let len = length-joined text (take k texts) in
    let later = cut_at (cp + length text) texts k (omega arith) in
    let e : cp + length text + length (joined_texts (take k texts)) ≡ cp + length (joined_texts (text ∷ take k texts)) =
    omega arith in later ∙ e

-- an item of a text is in the joined texts, behind those before it
pub in_joined : (texts : List (List Item)) (k : ℕ) (text : List Item) (i : ℕ) (item : Item) →
    slice_get texts k ≡ Some text → slice_get text i ≡ Some item →
    slice_get (joined_texts texts) (length (joined_texts (take k texts)) + i) ≡ Some item
in_joined [] k text i item there here = absurd (none-some text there)
in_joined (first ∷ texts) zero text i item there here =
    let same : slice_get first i ≡ Some item =
    subst (λ t. slice_get t i ≡ Some item) (sym (same_Some first text there)) here in
    let e : 0 + i ≡ i = omega arith in
    ap (slice_get (joined_texts (first ∷ texts))) e ∙ in_front first (joined_texts texts) i item same
in_joined (first ∷ texts) (suc k) text i item there here =
    let len = length-joined first (take k texts) in
    in_back first (joined_texts texts) (length (joined_texts (take k texts)) + i)
    (length (joined_texts (first ∷ take k texts)) + i) item (in_joined texts k text i item there here) (omega arith)

-- one text more
pub next_joined : (texts : List (List Item)) (k : ℕ) (text : List Item) → slice_get texts k ≡ Some text →
    length (joined_texts (take (k + 1) texts)) ≡ length (joined_texts (take k texts)) + length text
next_joined [] k text there = absurd (none-some text there)
next_joined (first ∷ texts) zero text there =
    let len = length-joined first [] in
    let same : length first ≡ length text = ap length (same_Some first text there) in
    omega (arith, len, same)
next_joined (first ∷ texts) (suc k) text there =
    let e : suc k + 1 ≡ suc (k + 1) = omega arith in
    let before = length-joined first (take k texts) in
    let after = length-joined first (take (k + 1) texts) in
    let later = next_joined texts k text there in
    ap (λ n. length (joined_texts (take n (first ∷ texts)))) e ∙ omega arith

-- where there are no items each text is empty
pub empty_joined : (texts : List (List Item)) (k : ℕ) (text : List Item) → length (joined_texts texts) ≡ 0 →
    slice_get texts k ≡ Some text → text ≡ []
empty_joined [] k text none there = absurd (none-some text there)
empty_joined (first ∷ texts) zero text none there =
    let len = length-joined first texts in
    let empty : length first ≡ 0 = omega arith in
    sym (same_Some first text there) ∙ nil_from_length first empty
empty_joined (first ∷ texts) (suc k) text none there =
    let len = length-joined first texts in empty_joined texts k text (omega arith) there

-- what holds of the items of each text holds of all
pub joined_all : (P : Item → Type 0) (texts : List (List Item)) →
    ((k : ℕ) (text : List Item) → slice_get texts k ≡ Some text → All P text) → All P (joined_texts texts)
joined_all P [] each = All-nil P
joined_all P (text ∷ texts) each =
    All-append P text (joined_texts texts) (each zero text refl) (joined_all P texts (λ k. each (suc k)))

-- ---- texts one after the other

-- one text more
pub text_joined : (texts : List (List Item)) (k : ℕ) (text : List Item) → slice_get texts k ≡ Some text →
    joined_texts (take (k + 1) texts) ≡ joined_texts (take k texts) ++ text
text_joined texts k text there =
    ap joined_texts (take_next texts k text (slice_get_within texts k text there) there)
    ∙ (flat_map-append (λ t. t) (take k texts) (text ∷ [])
    ∙ ap (λ l. joined_texts (take k texts) ++ l) (flat_map-cons (λ t. t) text [] ∙ append-nil text))

-- the first texts have no more items than all
pub first_joined : (texts : List (List Item)) (k : ℕ) →
    length (joined_texts (take k texts)) ≤ length (joined_texts texts)
first_joined texts k =
    omega (
      arith,
      ap (λ l. length (joined_texts l)) (take-append-drop k texts),
      ap length (flat_map-append (λ t. t) (take k texts) (drop k texts)),
      length-append (joined_texts (take k texts)) (joined_texts (drop k texts)),
    )
