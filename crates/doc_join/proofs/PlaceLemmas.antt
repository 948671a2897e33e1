-- Where the items of both documents are in the joined one, with the marks of their paragraphs.
use Rattle.std.proofs.Common.{◌≡◌, ◌∙◌, inl, inr, refl, sym, ap, subst, ℕ, zero, suc, ◌+◌, ◌-◌, ◌<◌, ◌≤◌, List, [], ◌∷◌}
use Rattle.std.proofs.Common.{length, map, take, drop, get_or, Some, option_map, arith, is_some}
use Rattle.std.proofs.Common.{length-take}
use Rattle.std.specs.Prelude.{slice_get, slice_set}
use Rattle.std.proofs.lemmas.Bool.{cases_lt}
use Rattle.std.proofs.lemmas.List.{length-map, length-set, get_or-take, get_or-set_same}
use Rattle.std.proofs.lemmas.Option.{slice_get_within, slice_get_read, get_or_from_slice_get, same_Some}
use Rattle.doc_bits.proofs.Public.{get-map, there_is, in_front, in_back}
use Rattle.doc_model.specs.declared.item.Item.{Item}
use Rattle.doc_model.specs.declared.item.Mark.{Mark}
use Rattle.doc_model.specs.Paragraphs.{EndsParagraph}
use Rattle.doc_join.specs.declared.renumbering.Renumbering.{Renumbering}
use Rattle.doc_join.specs.Texts.{renumbered_item, renumbered_mark, renumbered_text, renumbered_texts, ending_section}
use Rattle.doc_join.specs.Texts.{section_ended, joined_main, texts_of_both}
use Rattle.doc_join.specs.Effects.{IsMarkFrom}
use Rattle.doc_join.proofs.TextLemmas.{end_is, moved_some}
use Rattle.doc_join.proofs.SoundLemmas.{length-ended}

-- ---- a text within another one

-- an item with the same mark, renumbered
pub record HasItemLike (numbers : Renumbering) (text : List Item) (place : ℕ) (item : Item) : Type 0 where
  pub made : Item
  pub here : slice_get text place ≡ Some made
  pub mark : made.mark ≡ option_map (renumbered_mark numbers) item.mark

-- the items of a text are in another one, behind so many others, with their marks renumbered
pub record StandsIn (numbers : Renumbering) (shift : ℕ) (text joined : List Item) : Type 0 where
  pub items :
      (i : ℕ) (item : Item) → slice_get text i ≡ Some item → HasItemLike numbers joined (shift + i) item

-- a paragraph ends at such an item where one ended before
still_ends : (numbers : Renumbering) (shift : ℕ) (text joined : List Item) (i : ℕ) →
    StandsIn numbers shift text joined →
    EndsParagraph text i → EndsParagraph joined (shift + i)
still_ends numbers shift text joined i stands ends =
    let like = stands.items i ends.item ends.here in
    record {
      item = like.made;
      here = like.here;
      marked = ap is_some like.mark ∙ (moved_some numbers ends.item.mark ∙ ends.marked);
    }

ended_before : (numbers : Renumbering) (shift : ℕ) (text joined : List Item) (i at : ℕ) →
    StandsIn numbers shift text joined → i < length text → at ≡ shift + i → EndsParagraph joined at →
    EndsParagraph text i
ended_before numbers shift text joined i at stands within is ends =
    let found = there_is text i within in
    let like = stands.items i found.0 found.1 in
    let same : ends.item ≡ like.made =
    same_Some ends.item like.made (sym ends.here ∙ (ap (slice_get joined) is ∙ like.here)) in
    record {
      item = found.0;
      here = found.1;
      marked =
          sym (moved_some numbers found.0.mark)
          ∙ (ap is_some (sym like.mark) ∙ (ap (λ (item : Item). is_some item.mark) (sym same) ∙ ends.marked));
    }

pub mark_stands : (numbers : Renumbering) (shift : ℕ) (text joined : List Item) (from : ℕ) (mark : Mark) →
    StandsIn numbers shift text joined → IsMarkFrom text from mark →
    IsMarkFrom joined (shift + from) (renumbered_mark numbers mark)
mark_stands numbers shift text joined from mark stands old =
    let ends = old.is_end in
    let after = ends.after in
    let end = old.end in
    let within = slice_get_within text end old.item old.there in
    let like = stands.items end old.item old.there in
    record {
      end = shift + end;
      is_end = record {
        after = omega (arith, after);
        ends = still_ends numbers shift text joined end stands ends.ends;
        least = λ at low ends_here. elim (cases_lt at (shift + end)) [
          | inl before ↦
              let least = ends.least (at - shift) (omega (arith, low, before))
              (ended_before numbers shift text joined (at - shift) at stands (omega (arith, low, before, within))
              (let is : at ≡ shift + (at - shift) = omega (arith, low) in is) ends_here) in
              omega (arith, least, before, low)
          | inr high ↦ high
        ];
      };
      item = like.made;
      there = like.here;
      has = like.mark ∙ ap (option_map (renumbered_mark numbers)) old.has;
    }

-- ---- the texts of the joined document

-- a text whose items are renumbered
pub renumbered_stands : (numbers : Renumbering) (text : List Item) →
    StandsIn numbers 0 text (renumbered_text numbers text)
renumbered_stands numbers text = record {
  items = λ i item here.
      let at : i ≡ 0 + i = omega arith in
      record {
        made = renumbered_item numbers item;
        here = subst (λ n. slice_get (renumbered_text numbers text) n ≡ Some (renumbered_item numbers item)) at
            (get-map (renumbered_item numbers) text i item here);
        mark = refl;
      };
}

-- the first main text, its section ended: all items but the last are as they were
ended_get : (text : List Item) (i : ℕ) (item : Item) → slice_get text i ≡ Some item → i + 1 < length text →
    slice_get (section_ended text) i ≡ Some item
ended_get text i item here within =
    let last = length text - 1 in
    let front = take last text in
    let long = length-take last text in
    in_front front (map ending_section (drop last text)) i item
    (slice_get_read front (length front) i item refl (omega (arith, long, within))
    (sym (get_or-take last text i item (omega (arith, within)) ∙ get_or_from_slice_get text i item item here)))

ended_end : (text : List Item) (i : ℕ) (item : Item) → slice_get text i ≡ Some item → i + 1 ≡ length text →
    slice_get (section_ended text) i ≡ Some (ending_section item)
ended_end text i item here last =
    let within = slice_get_within text i item here in
    let end : length text - 1 ≡ i = omega (arith, last) in
    let made = ending_section item in
    let same = get_or_from_slice_get text i item item here in
    let set : slice_set text i made ≡ section_ended text =
    ap (λ n. slice_set text n made) (sym end)
    ∙ end_is text item (omega (arith, within)) (sym (ap (λ n. get_or text n item) end ∙ same)) in
    ap (λ t. slice_get t i) (sym set)
    ∙ slice_get_read (slice_set text i made) (length (slice_set text i made)) i made refl
    (omega (arith, length-set text i made, within)) (sym (get_or-set_same text i made made within))

-- an item of the first main text, and the last one
pub first_main : (first_maps second_maps : Renumbering) (first second : List Item) (i : ℕ) (item : Item) →
    slice_get first i ≡ Some item → i + 1 < length first →
    slice_get (joined_main first_maps first second_maps second) i ≡ Some (renumbered_item first_maps item)
first_main first_maps second_maps first second i item here within =
    let text = renumbered_text first_maps first in
    in_front (section_ended text) (renumbered_text second_maps second) i (renumbered_item first_maps item)
    (ended_get text i (renumbered_item first_maps item) (get-map (renumbered_item first_maps) first i item here)
    (omega (arith, length-map first (renumbered_item first_maps), within)))

pub first_main_end : (first_maps second_maps : Renumbering) (first second : List Item) (i : ℕ) (item : Item) →
    slice_get first i ≡ Some item → i + 1 ≡ length first →
    slice_get (joined_main first_maps first second_maps second) i ≡ Some (ending_section (renumbered_item first_maps
    item))
first_main_end first_maps second_maps first second i item here last =
    let text = renumbered_text first_maps first in
    in_front (section_ended text) (renumbered_text second_maps second) i (ending_section (renumbered_item first_maps
    item))
    (ended_end text i (renumbered_item first_maps item) (get-map (renumbered_item first_maps) first i item here)
    (last ∙ sym (length-map first (renumbered_item first_maps))))

pub second_main : (first_maps second_maps : Renumbering) (first second : List Item) (i : ℕ) (item : Item) →
    slice_get second i ≡ Some item →
    slice_get (joined_main first_maps first second_maps second) (length first + i) ≡ Some (renumbered_item second_maps
    item)
second_main first_maps second_maps first second i item here =
    let text = renumbered_text first_maps first in
    in_back (section_ended text) (renumbered_text second_maps second) i (length first + i) (renumbered_item second_maps
    item)
    (get-map (renumbered_item second_maps) second i item here)
    (omega (arith, length-ended text, length-map first (renumbered_item first_maps)))

pub first_main_stands : (first_maps second_maps : Renumbering) (first second : List Item) →
    StandsIn first_maps 0 first (joined_main first_maps first second_maps second)
first_main_stands first_maps second_maps first second = record {
  items = λ i item here.
      let at : i ≡ 0 + i = omega arith in
      let within = slice_get_within first i item here in
      subst (λ n. HasItemLike first_maps (joined_main first_maps first second_maps second) n item) at
      (elim (cases_lt (i + 1) (length first)) [
        | inl before ↦ record {
          made = renumbered_item first_maps item;
          here = first_main first_maps second_maps first second i item here before;
          mark = refl;
        }
        | inr end ↦ record {
          made = ending_section (renumbered_item first_maps item);
          here = first_main_end first_maps second_maps first second i item here (omega (arith, end, within));
          mark = refl;
        }
      ]);
}

pub second_main_stands : (first_maps second_maps : Renumbering) (first second : List Item) →
    StandsIn second_maps (length first) second (joined_main first_maps first second_maps second)
second_main_stands first_maps second_maps first second = record {
  items = λ i item here. record {
    made = renumbered_item second_maps item;
    here = second_main first_maps second_maps first second i item here;
    mark = refl;
  };
}

-- notes and header texts
drop_get : {A : Type 0} (n : ℕ) (xs : List A) (k : ℕ) → slice_get (drop n xs) k ≡ slice_get xs (n + k)
drop_get zero xs k = let at : k ≡ 0 + k = omega arith in ap (slice_get xs) at
drop_get (suc n) [] k = refl
drop_get (suc n) (x ∷ xs) k =
    let at : suc (n + k) ≡ suc n + k = omega arith in drop_get n xs k ∙ ap (slice_get (x ∷ xs)) at

pub first_text : (from : ℕ) (first_maps second_maps : Renumbering) (first second : List (List Item)) (number : ℕ)
    (text : List Item) → slice_get first number ≡ Some text →
    slice_get (texts_of_both from first_maps first second_maps second) number ≡ Some (renumbered_text first_maps text)
first_text from first_maps second_maps first second number text here =
    in_front (renumbered_texts first_maps first) (renumbered_texts second_maps (drop from second)) number
    (renumbered_text first_maps text) (get-map (renumbered_text first_maps) first number text here)

pub second_text : (from : ℕ) (first_maps second_maps : Renumbering) (first second : List (List Item)) (number : ℕ)
    (text : List Item) → slice_get second number ≡ Some text → from ≤ number →
    slice_get (texts_of_both from first_maps first second_maps second) (length first + (number - from))
    ≡ Some (renumbered_text second_maps text)
second_text from first_maps second_maps first second number text here low =
    let at : from + (number - from) ≡ number = omega (arith, low) in
    in_back (renumbered_texts first_maps first) (renumbered_texts second_maps (drop from second)) (number - from)
    (length first + (number - from)) (renumbered_text second_maps text)
    (get-map (renumbered_text second_maps) (drop from second) (number - from) text
    (drop_get from second (number - from) ∙ (ap (slice_get second) at ∙ here)))
    (omega (arith, length-map first (renumbered_text first_maps)))
