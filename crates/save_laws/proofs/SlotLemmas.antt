-- The slots of a saved document by their CPs.
use Rattle.std.specs.Prelude.{⊤, slice_get}
use Rattle.std.proofs.Common.{subst, All, ◌≡◌, ◌∙◌, refl, ap, ℕ, ◌+◌, ◌-◌, ◌<◌, ◌≤◌, true, false, List, [], ◌∷◌, ◌++◌}
use Rattle.std.proofs.Common.{length, map, min, Bool, Some, arith, inl, inr}
use Rattle.std.proofs.lemmas.Bool.{cases_lt}
use Rattle.std.proofs.lemmas.List.{length-map, length-append}
use Rattle.std.proofs.lemmas.List.Elements.{All-nil, All-cons, All-append, All-map}
use Rattle.doc_bits.proofs.Public.{there_is, get-map, All_at, in_front, in_back}
use Rattle.fib_form.specs.FibFields.{text_length}
use Rattle.fib_form.proofs.Public.{sum-three}
use Rattle.text_codes.specs.Paragraph.{paragraph_mark}
use Rattle.doc_model.specs.declared.item.Item.{Item}
use Rattle.doc_model.specs.declared.document.Document.{Document}
use Rattle.doc_model.specs.Collected.{joined_texts}
use Rattle.save_laws.specs.Slots.{Slot, shown, loose, last, StoryEnds, loose_if, story_slots, note_slots, head_slots}
use Rattle.save_laws.specs.Slots.{last_slots, document_slots, story_counts}

-- the unit of a slot; that of the last CP does not matter
abbrev pub slot_unit : Slot → ℕ
slot_unit (shown item) = item.unit
slot_unit loose = paragraph_mark
slot_unit last = 0

-- the slot is checked: it is not the last CP
abbrev pub IsJudgedSlot : Slot → Type 0
IsJudgedSlot (shown item) = ⊤
IsJudgedSlot loose = ⊤
IsJudgedSlot last = ⊥

-- the property holds of the item that the slot shows, if it shows one
abbrev pub IsShownAs : (Item → Type 0) → Slot → Type 0
IsShownAs P (shown item) = P item
IsShownAs P loose = ⊤
IsShownAs P last = ⊤

-- ---- how many there are

pub length-loose_if : (end : Bool) → length (loose_if end) ≤ 1
length-loose_if true = omega arith
length-loose_if false = omega arith

pub length-story_slots : (texts : List (List Item)) (end : Bool) →
    length (story_slots texts end) ≡ length (joined_texts texts) + length (loose_if end)
length-story_slots texts end =
    length-append (map shown (joined_texts texts)) (loose_if end)
    ∙ ap (λ n. n + length (loose_if end)) (length-map (joined_texts texts) shown)

length-last : (slots : List Slot) → length (last_slots slots) ≡ min 1 (length slots)
length-last [] = omega arith
length-last (slot ∷ slots) = omega arith

pub length-whole : (document : Document) (ends : StoryEnds) →
    length (document_slots document ends) ≡ text_length (story_counts document ends)
unfolding document_slots
length-whole document ends =
    let main : List Slot = map shown document.main in
    let notes = note_slots document ends in
    let heads = head_slots document ends in
    let rest = last_slots (notes ++ heads) in
    let a = length-append main (notes ++ (heads ++ rest)) in
    let b = length-append notes (heads ++ rest) in
    let c = length-append heads rest in
    let d = length-last (notes ++ heads) in
    let e = length-append notes heads in
    let f = length-map document.main shown in
    let counted = sum-three (story_counts document ends) refl in
    omega (arith, a, b, c, d, e, f, counted)

-- ---- where they are

pub main_slot : (document : Document) (ends : StoryEnds) (i : ℕ) (item : Item) → slice_get document.main i ≡ Some item →
    slice_get (document_slots document ends) i ≡ Some (shown item)
unfolding document_slots
main_slot document ends i item here =
    let notes = note_slots document ends in
    let heads = head_slots document ends in
    in_front (map shown document.main) (notes ++ (heads ++ last_slots (notes ++ heads))) i (shown item)
    (get-map shown document.main i item here)

pub note_slot : (document : Document) (ends : StoryEnds) (i : ℕ) (slot : Slot) →
    slice_get (note_slots document ends) i ≡ Some slot →
    slice_get (document_slots document ends) (length document.main + i) ≡ Some slot
unfolding document_slots
note_slot document ends i slot here =
    let notes = note_slots document ends in
    let heads = head_slots document ends in
    let len = length-map document.main shown in
    in_back (map shown document.main) (notes ++ (heads ++ last_slots (notes ++ heads))) i
    (length document.main + i) slot
    (in_front notes (heads ++ last_slots (notes ++ heads)) i slot here) (omega arith)

pub head_slot : (document : Document) (ends : StoryEnds) (i : ℕ) (slot : Slot) →
    slice_get (head_slots document ends) i ≡ Some slot →
    slice_get (document_slots document ends) (length document.main + length (note_slots document ends) + i) ≡ Some slot
unfolding document_slots
head_slot document ends i slot here =
    let notes = note_slots document ends in
    let heads = head_slots document ends in
    let len = length-map document.main shown in
    in_back (map shown document.main) (notes ++ (heads ++ last_slots (notes ++ heads))) (length notes + i)
    (length document.main + length notes + i) slot
    (in_back notes (heads ++ last_slots (notes ++ heads)) i (length notes + i) slot
    (in_front heads (last_slots (notes ++ heads)) i slot here) (omega arith)) (omega arith)

-- an item of a story's texts
pub story_item : (texts : List (List Item)) (end : Bool) (i : ℕ) (item : Item) →
    slice_get (joined_texts texts) i ≡ Some item → slice_get (story_slots texts end) i ≡ Some (shown item)
story_item texts end i item here =
    in_front (map shown (joined_texts texts)) (loose_if end) i (shown item)
    (get-map shown (joined_texts texts) i item here)

-- the mark behind them
pub story_mark : (texts : List (List Item)) →
    slice_get (story_slots texts true) (length (joined_texts texts)) ≡ Some loose
story_mark texts =
    let len = length-map (joined_texts texts) shown in
    in_back (map shown (joined_texts texts)) (loose ∷ []) 0 (length (joined_texts texts)) loose refl (omega arith)

-- ---- what holds of them

judged_items : (items : List Item) → All IsJudgedSlot (map shown items)
judged_items items = All-map IsJudgedSlot shown items (λ k d below. tt)

judged_loose : (end : Bool) → All IsJudgedSlot (loose_if end)
judged_loose true = All-cons IsJudgedSlot loose [] tt (All-nil IsJudgedSlot)
judged_loose false = All-nil IsJudgedSlot

judged_story : (texts : List (List Item)) (end : Bool) → All IsJudgedSlot (story_slots texts end)
judged_story texts end =
    All-append IsJudgedSlot (map shown (joined_texts texts)) (loose_if end) (judged_items (joined_texts texts))
    (judged_loose end)

-- a CP of the three stories has a slot, and it is checked
pub record IsFrontSlot (document : Document) (ends : StoryEnds) (cp : ℕ) : Type 0 where
  pub slot : Slot
  pub here : slice_get (document_slots document ends) cp ≡ Some slot
  pub judged : IsJudgedSlot slot

pub front_slot : (document : Document) (ends : StoryEnds) (cp : ℕ) →
    cp < length document.main + length (note_slots document ends) + length (head_slots document ends) →
    IsFrontSlot document ends cp
front_slot document ends cp below =
    let main = length document.main in
    let notes = note_slots document ends in
    let heads = head_slots document ends in
    elim (cases_lt cp main) [
      | inl low ↦
          let found = there_is document.main cp low in
          record { slot = shown found.0; here = main_slot document ends cp found.0 found.1; judged = tt }
      | inr high ↦ elim (cases_lt cp (main + length notes)) [
        | inl middle ↦
            let i : ℕ = cp - main in
            let found = there_is notes i (omega arith) in
            let at : main + i ≡ cp = omega arith in
            record {
              slot = found.0;
              here = subst (λ n. slice_get (document_slots document ends) n ≡ Some found.0) at
                  (note_slot document ends i found.0 found.1);
              judged = All_at IsJudgedSlot notes i found.0 (judged_story document.notes ends.notes) found.1;
            }
        | inr behind ↦
            let i : ℕ = cp - (main + length notes) in
            let found = there_is heads i (omega arith) in
            let at : main + length notes + i ≡ cp = omega arith in
            record {
              slot = found.0;
              here = subst (λ n. slice_get (document_slots document ends) n ≡ Some found.0) at
                  (head_slot document ends i found.0 found.1);
              judged = All_at IsJudgedSlot heads i found.0 (judged_story document.heads ends.heads) found.1;
            }
      ]
    ]

shown_loose : (P : Item → Type 0) (end : Bool) → All (IsShownAs P) (loose_if end)
shown_loose P true = All-cons (IsShownAs P) loose [] tt (All-nil (IsShownAs P))
shown_loose P false = All-nil (IsShownAs P)

shown_last : (P : Item → Type 0) (slots : List Slot) → All (IsShownAs P) (last_slots slots)
shown_last P [] = All-nil (IsShownAs P)
shown_last P (slot ∷ slots) = All-cons (IsShownAs P) last [] tt (All-nil (IsShownAs P))

shown_story : (P : Item → Type 0) (texts : List (List Item)) (end : Bool) → All P (joined_texts texts) →
    All (IsShownAs P) (story_slots texts end)
shown_story P texts end all =
    All-append (IsShownAs P) (map shown (joined_texts texts)) (loose_if end)
    (All-map (IsShownAs P) shown (joined_texts texts) all) (shown_loose P end)

-- what holds of each item of the document holds of each item that a slot shows
pub all_shown : (P : Item → Type 0) (document : Document) (ends : StoryEnds) → All P document.main →
    All P (joined_texts document.notes) → All P (joined_texts document.heads) →
    All (IsShownAs P) (document_slots document ends)
unfolding document_slots
all_shown P document ends main notes heads =
    let note_list = note_slots document ends in
    let head_list = head_slots document ends in
    let rest = last_slots (note_list ++ head_list) in
    All-append (IsShownAs P) (map shown document.main) (note_list ++ (head_list ++ rest))
    (All-map (IsShownAs P) shown document.main main)
    (All-append (IsShownAs P) note_list (head_list ++ rest) (shown_story P document.notes ends.notes notes)
    (All-append (IsShownAs P) head_list rest (shown_story P document.heads ends.heads heads)
    (shown_last P (note_list ++ head_list))))
