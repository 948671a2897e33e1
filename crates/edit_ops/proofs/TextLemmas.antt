-- What a sound document says of the texts that a command may change.
use Rattle.std.proofs.Common.{◌≡◌, ◌∙◌, refl, sym, ap, inl, inr, cond, ◌∷◌, zero, suc, ℕ, ◌+◌, ◌-◌, ◌<◌, ◌≤◌, Bool}
use Rattle.std.proofs.Common.{true, false, List, [], length, take, drop, get_or, Some, arith}
use Rattle.std.specs.Prelude.{slice_get, is_some}
use Rattle.std.specs.List.{position_or_len, count_by, sum_by}
use Rattle.std.specs.Option.{option_map}
use Rattle.std.proofs.lemmas.List.{get_or-drop}
use Rattle.std.proofs.lemmas.List.Sums.{fails_before_first, get_or-le-sum_by, sum_by-take-drop}
use Rattle.std.proofs.lemmas.Bool.{cases_lt}
use Rattle.std.proofs.lemmas.Option.{same_Some, slice_get_cases, slice_get_within, get_or_from_slice_get, none-some}
use Rattle.doc_bits.specs.declared.places.Where.{Where}
use Rattle.doc_bits.specs.declared.places.Where.TheVariants as part
use Rattle.doc_bits.specs.declared.places.Story.{Story}
use Rattle.doc_bits.specs.declared.places.Story.TheVariants.{Main, Note, Head}
use Rattle.text_codes.specs.Paragraph.{paragraph_mark}
use Rattle.style_sheet.specs.Sheet.{Sheet}
use Rattle.doc_model.specs.declared.item.Item.{Item}
use Rattle.doc_model.specs.declared.document.Document.{Document}
use Rattle.plain_doc.specs.RulesOfTexts.{last_unit, EndsRight}
use Rattle.plain_doc.specs.RightDocument.{IsValidText, IsValidDocument}
use Rattle.plain_doc.proofs.Public.{main_ends, ends_main}
use Rattle.doc_patch.specs.Places.{story_text, mark_place, mark_unit, section_place}
use Rattle.doc_patch.proofs.Public.{nothing}

-- ---- texts that are there

abbrev pub part_of : Story → Where
part_of Main = part.Main
part_of (Note k) = part.Note k
part_of (Head k) = part.Head k

pub right_text : (document : Document) (story : Story) (text : List Item) → IsValidDocument document →
    story_text document story ≡ Some text → IsValidText document.sheet (part_of story) text
right_text document Main text right there = right.texts part.Main text there
right_text document (Note k) text right there = right.texts (part.Note k) text there
right_text document (Head k) text right there = right.texts (part.Head k) text there

among : (texts : List (List Item)) (k : ℕ) (text : List Item) → slice_get texts k ≡ Some text → length text ≤ sum_by
    length texts
among texts k text there =
    let within = slice_get_within texts k text there in
    let least : length (get_or texts k text) ≤ sum_by length texts = get_or-le-sum_by length texts k text within in
    let same : length (get_or texts k text) ≡ length text = ap length (get_or_from_slice_get texts k text text there) in
    omega arith

-- a text has no more items than a document may have
pub few_items : (document : Document) (story : Story) (text : List Item) → IsValidDocument document → story_text
    document
    story ≡ Some text → length text ≤ 499998
few_items document Main text right there =
    let few : length document.main + (sum_by length document.notes + sum_by length document.heads) ≤ 499998 =
    right.few in
    let same : length document.main ≡ length text = ap length (same_Some document.main text there) in
    omega arith
few_items document (Note k) text right there =
    let few : length document.main + (sum_by length document.notes + sum_by length document.heads) ≤ 499998 =
    right.few in
    let one = among document.notes k text there in
    omega arith
few_items document (Head k) text right there =
    let few : length document.main + (sum_by length document.notes + sum_by length document.heads) ≤ 499998 =
    right.few in
    let one = among document.heads k text there in
    omega arith

-- ---- the first entry that passes

pub first_upto : {A : Type 0} (p : A → Bool) (entries : List A) (at k : ℕ) (d : A) → at ≤ k → p (get_or entries k d) ≡
    true → at + position_or_len p (drop at entries) ≤ k
first_upto p entries at k d after passes =
    elim (cases_lt (k - at) (position_or_len p (drop at entries))) [
      | inl less ↦
          let n : at + (k - at) ≡ k = omega arith in
          let fails : p (get_or (drop at entries) (k - at) d) ≡ false = fails_before_first p (drop at entries)
          (k - at) d less in
          let same : get_or (drop at entries) (k - at) d ≡ get_or entries k d = get_or-drop at entries (k - at) d ∙ ap
          (λ i. get_or entries i d) n in
          absurd (grind (arith, sym fails ∙ (ap p same ∙ passes)))
      | inr not_less ↦ omega (arith, not_less)
    ]

-- ---- a paragraph ends in each text, from each of its items on

record HasLastMark (text : List Item) : Type 0 where
  item : Item
  here : slice_get text (length text - 1) ≡ Some item
  unit : item.unit ≡ paragraph_mark

with_mark : (text : List Item) → last_unit text ≡ Some paragraph_mark → HasLastMark text
with_mark text unit = elim (slice_get_cases text (length text - 1)).1 [
  | inl w ↦ record {
    item = w.0;
    here = w.2;
    unit = same_Some w.0.unit paragraph_mark (sym (ap (option_map (λ i. i.unit)) w.2) ∙ unit);
  }
  | inr past ↦ absurd (none-some paragraph_mark (sym (ap (option_map (λ i. i.unit)) past.1) ∙ unit))
]

last_mark : (part : Where) (text : List Item) → EndsRight part text → 0 < length text → HasLastMark text
last_mark part text ends some = elim ends [
  | inl unit ↦ with_mark text unit
  | inr head ↦ absurd (let none = ap length head.1 in omega (arith, none, some))
]

pub mark_within : (sheet : Sheet) (part : Where) (text : List Item) (at : ℕ) → IsValidText sheet part text →
    at < length text → mark_place text at < length text
mark_within sheet part text at right within =
    let last = last_mark part text right.ends (omega arith) in
    let marked = (right.placed (length text - 1) last.item last.here).mark.1 (inl last.unit) in
    let passes : is_some (get_or text (length text - 1) nothing).mark ≡ true =
    ap (λ item. is_some item.mark) (get_or_from_slice_get text (length text - 1) last.item nothing last.here) ∙ marked
    in
    let upto = first_upto (λ item. is_some item.mark) text at (length text - 1) nothing (omega arith) passes in
    omega (arith, upto, within)

-- the main text's last item ends a section
pub section_within : (document : Document) (at : ℕ) → IsValidDocument document → at < length document.main →
    section_place document.main at < length document.main
section_within document at right within =
    let last = main_ends document right in
    let ends = ends_main document right in
    let passes : is_some (get_or document.main (length document.main - 1) nothing).sect ≡ true =
    ap (λ item. is_some item.sect) (get_or_from_slice_get document.main (length document.main - 1) last.item nothing
    last.here) ∙ ends in
    let upto = first_upto (λ item. is_some item.sect) document.main at (length document.main - 1) nothing
    (omega arith) passes in
    omega (arith, upto, within)

-- a mark whose unit is told is there
pub unit_within : (text : List Item) (at unit : ℕ) → mark_unit text at ≡ Some unit → mark_place text at < length text
unit_within text at unit is = elim (slice_get_cases text (mark_place text at)).1 [
  | inl w ↦ slice_get_within text (mark_place text at) w.0 w.2
  | inr past ↦ absurd (none-some unit (sym (ap (option_map (λ i. i.unit)) past.1) ∙ is))
]

-- ---- counts of what comes before a place

take_twice : {A : Type 0} (from to : ℕ) (xs : List A) → from ≤ to → take from (take to xs) ≡ take from xs
take_twice zero to xs ordered = refl
take_twice (suc from) zero xs ordered = absurd (omega arith)
take_twice (suc from) (suc to) [] ordered = refl
take_twice (suc from) (suc to) (x ∷ xs) ordered = ap (λ more. x ∷ more) (take_twice from to xs (omega arith))

pub count_within : {A : Type 0} (p : A → Bool) (entries : List A) (at : ℕ) → count_by p (take at entries) ≤ count_by p
    entries
count_within p entries at =
    let whole : count_by p (take at entries) + count_by p (drop at entries) ≡ count_by p entries = sum_by-take-drop
    (λ x. cond (p x) 1 0) entries at in
    omega arith

pub count_upto : {A : Type 0} (p : A → Bool) (entries : List A) (from to : ℕ) → from ≤ to →
    count_by p (take from entries) ≤ count_by p (take to entries)
count_upto p entries from to ordered =
    let within = count_within p (take to entries) from in
    let same : count_by p (take from (take to entries)) ≡ count_by p (take from entries) = ap (count_by p)
    (take_twice from to entries ordered) in
    omega arith
