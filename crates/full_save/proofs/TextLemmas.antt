-- A text that goes on by items, and the marks behind stories.
use Rattle.std.proofs.Common.{◌≡◌, ◌≤◌, ◌<◌, ◌+◌, ◌∙◌, ap, refl, sym, subst, inl, inr, ℕ, Bool, true, false, List, []}
use Rattle.std.proofs.Common.{◌∷◌, ◌++◌, length, map, take, get_or, arith, lt-ltb}
use Rattle.std.specs.Prelude.{nat_lt}
use Rattle.std.proofs.lemmas.List.{append_assoc, length-append, append-nil, take_more, map-append}
use Rattle.std.proofs.lemmas.Grind.{flat_map-append}
use Rattle.std.proofs.lemmas.Bool.{cases_lt}
use Rattle.doc_bits.specs.Number.{number_bytes}
use Rattle.doc_model.specs.declared.item.Item.{Item}
use Rattle.doc_model.specs.declared.document.Document.{Document}
use Rattle.doc_model.specs.Collected.{joined_texts}
use Rattle.full_save.specs.declared.text.TextSoFar.{TextSoFar}
use Rattle.full_save.specs.Text.{with_mark, mark_if, note_story, head_story, text_items}
use Rattle.full_save.specs.WordDocument.{units_bytes, items_bytes}
use Rattle.full_save.specs.RunsSoFar.{IsTextSoFar, GoesOnBy}
use Rattle.doc_bits.proofs.Public.{ltb_false}

pub goes_on_none : (text : TextSoFar) → GoesOnBy [] text text
goes_on_none text done so = subst (λ (items : List Item). IsTextSoFar items text) (sym (append-nil done)) so

pub goes_on_both : (xs ys : List Item) (one other last : TextSoFar) → GoesOnBy xs one other → GoesOnBy ys other last →
    GoesOnBy (xs ++ ys) one last
goes_on_both xs ys one other last first second done so =
    subst (λ (items : List Item). IsTextSoFar items last) (append_assoc done xs ys) (second (done ++ xs)
    (first done so))

pub goes_on_by : (xs ys : List Item) (one other : TextSoFar) → xs ≡ ys → GoesOnBy xs one other → GoesOnBy ys one other
goes_on_by xs ys one other same goes = subst (λ (items : List Item). GoesOnBy items one other) same goes

-- the mark behind items, where there are some
pub with_mark_is : (items : List Item) → with_mark items ≡ items ++ mark_if (nat_lt 0 (length items))
with_mark_is [] = refl
with_mark_is (item ∷ items) =
    let some : nat_lt 0 (length (item ∷ items)) ≡ true = lt-ltb 0 (length (item ∷ items)) (omega arith) in
    ap (λ (b : Bool). (item ∷ items) ++ mark_if b) (sym some)

not_true : (b : Bool) → ¬ (b ≡ true) → b ≡ false
not_true true h = absurd (h refl)
not_true false h = refl

-- units came behind the first ones exactly where there are some more
pub came_behind : (before more : ℕ) → nat_lt before (before + more) ≡ nat_lt 0 more
came_behind before more = elim (cases_lt 0 more) [
  | inl some ↦ lt-ltb before (before + more) (omega arith) ∙ sym (lt-ltb 0 more some)
  | inr none ↦ ltb_false before (before + more) (omega arith) ∙ sym (ltb_false 0 more none)
]

pub mark_most : (b : Bool) → length (mark_if b) ≤ 1
mark_most true = omega arith
mark_most false = omega arith

-- ---- texts one after the other

pub joined_next : (texts : List (List Item)) (k : ℕ) → k < length texts →
    joined_texts (take (k + 1) texts) ≡ joined_texts (take k texts) ++ get_or texts k []
joined_next texts k low =
    ap joined_texts (take_more texts k [] low)
    ∙ (flat_map-append (λ (text : List Item). text) (take k texts) (get_or texts k [] ∷ [])
    ∙ ap (λ (more : List Item). joined_texts (take k texts) ++ more) (append-nil (get_or texts k [])))

-- ---- the text of a document

pub text_is : (d : Document) →
    text_items d ≡ ((d.main ++ note_story d) ++ head_story d) ++ mark_if (nat_lt 0 (length (note_story d ++ head_story
    d)))
unfolding text_items
text_is d =
    let notes = note_story d in
    let heads = head_story d in
    let mark = mark_if (nat_lt 0 (length (notes ++ heads))) in
    ap (λ (xs : List Item). d.main ++ xs) (with_mark_is (notes ++ heads))
    ∙ (sym (append_assoc d.main (notes ++ heads) mark)
    ∙ ap (λ (xs : List Item). xs ++ mark) (sym (append_assoc d.main notes heads)))

pub record TextSizes (d : Document) : Type 0 where
  pub stories : length d.main + length (note_story d) + length (head_story d) ≤ length (text_items d)
  pub notes : length (joined_texts d.notes) ≤ length (note_story d)
  pub heads : length (joined_texts d.heads) ≤ length (head_story d)

with_mark_more : (items : List Item) → length items ≤ length (with_mark items)
with_mark_more items =
    let len = ap length (with_mark_is items) in
    omega (arith, len, length-append items (mark_if (nat_lt 0 (length items))))

pub text_sizes : (d : Document) → TextSizes d
unfolding note_story head_story
text_sizes d =
    let notes = with_mark (joined_texts d.notes) in
    let heads = with_mark (joined_texts d.heads) in
    let mark = mark_if (nat_lt 0 (length (notes ++ heads))) in
    let len = ap length (text_is d) in
    record {
      stories = omega (
        arith,
        len,
        length-append ((d.main ++ notes) ++ heads) mark,
        length-append (d.main ++ notes)
            heads,
        length-append d.main notes,
      );
      notes = with_mark_more (joined_texts d.notes);
      heads = with_mark_more (joined_texts d.heads);
    }

-- ---- its bytes

items_bytes-append : (xs ys : List Item) → items_bytes (xs ++ ys) ≡ items_bytes xs ++ items_bytes ys
items_bytes-append xs ys =
    let unit : Item → ℕ = λ item. item.unit in
    ap units_bytes (map-append unit xs ys) ∙ flat_map-append (number_bytes 2) (map unit xs) (map unit ys)

-- bytes of items behind those of others
pub puts_both : (old mid new : List ℕ) (xs ys : List Item) → mid ≡ old ++ items_bytes xs →
    new ≡ mid ++ items_bytes ys → new ≡ old ++ items_bytes (xs ++ ys)
puts_both old mid new xs ys first second =
    second
    ∙ ap (λ (bytes : List ℕ). bytes ++ items_bytes ys) first
    ∙ append_assoc old (items_bytes xs) (items_bytes ys)
    ∙ ap (λ (bytes : List ℕ). old ++ bytes) (sym (items_bytes-append xs ys))

-- a story has a mark where it has items
mark_counted : (items : List Item) → nat_lt 0 (length (with_mark items)) ≡ nat_lt 0 (length items)
mark_counted [] = refl
mark_counted (item ∷ items) =
    lt-ltb 0 (length (with_mark (item ∷ items))) (omega arith) ∙ sym (lt-ltb 0 (length (item ∷ items)) (omega arith))

pub story_is : (items : List Item) (count : ℕ) → count ≡ length (with_mark items) →
    items ++ mark_if (nat_lt 0 count) ≡ with_mark items
story_is items count is =
    ap (λ (b : Bool). items ++ mark_if b) (ap (λ (n : ℕ). nat_lt 0 n) is ∙ mark_counted items) ∙ sym
    (with_mark_is items)
