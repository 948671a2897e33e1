-- The texts of a joined document: what their maps may hold, and one text more.
use Rattle.std.proofs.Common.{◌≡◌, ◌∙◌, refl, sym, ap, subst, ℕ, suc, ◌+◌, ◌-◌, ◌<◌, ◌≤◌, List, [], ◌∷◌, ◌++◌}
use Rattle.std.proofs.Common.{length, take, drop, map, get_or, Option, Some, None, option_map, arith, append_assoc}
use Rattle.std.proofs.Common.{length-drop, is_some}
use Rattle.std.proofs.Math.Seq.{drop-cons}
use Rattle.std.proofs.lemmas.List.{take_more, map-append, set_split, drop_all, take_all, get_or-drop}
use Rattle.std.proofs.lemmas.List.Elements.{All-map, All-weaker}
use Rattle.std.proofs.lemmas.Option.{get_or_from_slice_get, same_Some}
use Rattle.std.specs.Prelude.{All, slice_set, slice_get, slice_range}
use Rattle.std.specs.Option.{ForSome}
use Rattle.doc_model.specs.declared.item.Item.{Item}
use Rattle.doc_model.specs.declared.item.Mark.{Mark}
use Rattle.prop_map.specs.Formed.{IsPropertyMap, paragraph_groups}
use Rattle.doc_model.specs.Document.{HasPropertyMaps, IsFormedItem, IsFormedText}
use Rattle.doc_join.specs.declared.renumbering.Renumbering.{Renumbering}
use Rattle.doc_join.specs.Texts.{renumbered_mark, renumbered_item, renumbered_text, renumbered_texts, ending_section}
use Rattle.doc_join.specs.Texts.{section_ended}
use Rattle.doc_join.proofs.SettingLemmas.{renumbered_formed}

-- ---- marks

pub moved_some : (numbers : Renumbering) (mark : Option Mark) →
    is_some (option_map (renumbered_mark numbers) mark) ≡ is_some mark
moved_some numbers None = refl
moved_some numbers (Some mark) = refl

-- what holds of a mark, whatever its style, holds of it with the style renumbered
pub mark_keeps : (P Q : Mark → Type 0) (numbers : Renumbering) (mark : Option Mark) →
    ((m : Mark) → P m → Q (renumbered_mark numbers m)) → ForSome mark P →
    ForSome (option_map (renumbered_mark numbers) mark) Q
mark_keeps P Q numbers None each held made is = absurd (cc)
mark_keeps P Q numbers (Some mark) each held made is = subst Q (same_Some _ _ is) (each mark (held mark refl))

-- ---- what maps may hold

pub item_maps : (numbers : Renumbering) (item : Item) → HasPropertyMaps item →
    HasPropertyMaps (renumbered_item numbers item)
item_maps numbers item maps = record {
  chp = renumbered_formed numbers item.chp maps.chp;
  pap =
      mark_keeps (λ mark. IsPropertyMap paragraph_groups mark.pap) (λ mark. IsPropertyMap paragraph_groups mark.pap)
      numbers item.mark (λ mark held. held) maps.pap;
  sect = maps.sect;
}

pub text_maps : (numbers : Renumbering) (text : List Item) → All HasPropertyMaps text →
    All HasPropertyMaps (renumbered_text numbers text)
text_maps numbers text maps =
    All-map HasPropertyMaps (renumbered_item numbers) text
    (All-weaker HasPropertyMaps (λ item. HasPropertyMaps (renumbered_item numbers item)) (item_maps numbers) text maps)

pub formed_maps : (numbers : Renumbering) (text : List Item) → IsFormedText text →
    All HasPropertyMaps (renumbered_text numbers text)
formed_maps numbers text formed =
    text_maps numbers text (All-weaker IsFormedItem HasPropertyMaps (λ item is. is.maps) text formed.each)

pub ended_maps : (item : Item) → HasPropertyMaps item → HasPropertyMaps (ending_section item)
ended_maps item maps = record { chp = maps.chp; pap = maps.pap; sect = maps.sect }

-- ---- one text more

-- a range with one entry more
pub range_more : {A : Type 0} (xs : List A) (from i : ℕ) (x : A) → slice_get xs i ≡ Some x → i < length xs → from ≤ i →
    slice_range xs from (i + 1) ≡ slice_range xs from i ++ x ∷ []
range_more {A} xs from i x here within low =
    let at : i + 1 - from ≡ (i - from) + 1 = omega arith in
    let place : from + (i - from) ≡ i = omega arith in
    ap (λ n. take n (drop from xs)) at
    ∙ (take_more (drop from xs) (i - from) x (omega (arith, length-drop from xs))
    ∙ ap (λ (y : A). take (i - from) (drop from xs) ++ y ∷ [])
    (get_or-drop from xs (i - from) x ∙ (ap (λ n. get_or xs n x) place ∙ get_or_from_slice_get xs i x x here)))

pub range_whole : {A : Type 0} (xs : List A) (from : ℕ) → slice_range xs from (length xs) ≡ drop from xs
range_whole xs from = take_all (length xs - from) (drop from xs) (omega (arith, length-drop from xs))

pub texts_more : (numbers : Renumbering) (texts : List (List Item)) (from i : ℕ) (text : List Item)
    (front : List (List Item)) → slice_get texts i ≡ Some text → i < length texts → from ≤ i →
    (front ++ renumbered_texts numbers (slice_range texts from i)) ++ renumbered_text numbers text ∷ []
    ≡ front ++ renumbered_texts numbers (slice_range texts from (i + 1))
texts_more numbers texts from i text front here within low =
    let f = renumbered_text numbers in
    append_assoc front (map f (slice_range texts from i)) (f text ∷ [])
    ∙ ap (λ more. front ++ more)
    (sym (ap (map f) (range_more texts from i text here within low)
    ∙ map-append f (slice_range texts from i) (text ∷ [])))

-- ---- the end of the first main text

pub end_is : (text : List Item) (item : Item) → 0 < length text → item ≡ get_or text (length text - 1) item →
    slice_set text (length text - 1) (ending_section item) ≡ section_ended text
end_is text item some here =
    let last = length text - 1 in
    let next : suc last ≡ length text = omega arith in
    let rest : drop (suc last) text ≡ [] = drop_all (suc last) text (omega arith) in
    set_split text last (ending_section item) (omega arith)
    ∙ ap (λ back. take last text ++ back)
    (ap (λ more. ending_section item ∷ more) rest
    ∙ sym (ap (map ending_section) (drop-cons text last item (omega arith)
    ∙ (ap (λ more. get_or text last item ∷ more) rest ∙ ap (λ (x : Item). x ∷ []) (sym here)))))
