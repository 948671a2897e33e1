-- What a right document says of its main text: how it ends, and what follows each of its items.
use Rattle.std.proofs.Common.{◌≡◌, ◌∙◌, inl, inr, ap, sym, subst, refl, ℕ, ◌+◌, ◌-◌, ◌<◌, List, length, Some, arith}
use Rattle.std.specs.Prelude.{IsSome}
use Rattle.std.specs.List.{slice_get}
use Rattle.std.specs.Option.{option_map}
use Rattle.std.proofs.lemmas.Option.{same_Some, slice_get_cases, slice_get_within, get_or_from_slice_get, none-some}
use Rattle.std.proofs.lemmas.List.Elements.{All-get_or}
use Rattle.doc_bits.specs.declared.places.Where.TheVariants.{Main}
use Rattle.doc_bits.specs.Places.{rank}
use Rattle.text_codes.specs.Paragraph.{paragraph_mark}
use Rattle.prop_map.specs.Formed.{IsPropertyMap, character_groups}
use Rattle.doc_model.specs.declared.item.Item.{Item}
use Rattle.doc_model.specs.declared.document.Document.{Document}
use Rattle.doc_model.specs.Document.{HasPropertyMaps, IsFormedItem, IsFormedText}
use Rattle.doc_model.specs.Paragraphs.{EndsParagraph, HasNoParagraphEnd}
use Rattle.plain_doc.specs.RulesOfTexts.{last_unit}
use Rattle.plain_doc.specs.RightDocument.{IsValidText, IsValidDocument}

-- the last item of a text, a paragraph mark
pub record HasLastMark (text : List Item) : Type 0 where
  pub some : 0 < length text
  pub item : Item
  pub here : slice_get text (length text - 1) ≡ Some item
  pub unit : item.unit ≡ paragraph_mark

pub main_right : (document : Document) → IsValidDocument document → IsValidText document.sheet Main document.main
main_right document right = right.texts Main document.main refl

-- a text that ends with the unit of a paragraph's end has an item there
pub ends_with_mark : (text : List Item) → last_unit text ≡ Some paragraph_mark → HasLastMark text
ends_with_mark text unit = elim (slice_get_cases text (length text - 1)).1 [
  | inl w ↦
      let within = slice_get_within text (length text - 1) w.0 w.2 in
      record {
        some = omega (arith, within);
        item = w.0;
        here = w.2;
        unit = same_Some w.0.unit paragraph_mark (sym (ap (option_map (λ i. i.unit)) w.2) ∙ unit);
      }
  | inr past ↦ absurd (none-some paragraph_mark (sym (ap (option_map (λ i. i.unit)) past.1) ∙ unit))
]

pub main_ends : (document : Document) → IsValidDocument document → HasLastMark document.main
main_ends document right = elim (main_right document right).ends [
  | inl unit ↦ ends_with_mark document.main unit
  | inr head ↦ let e = ap rank head.0.1 in absurd (omega arith)
]

-- the last item of the main text has a mark
pub last_marked : (document : Document) (right : IsValidDocument document) → IsSome (main_ends document right).item.mark
last_marked document right =
    let last = main_ends document right in
    let placed = (main_right document right).placed (length document.main - 1) last.item last.here in
    placed.mark.1 (inl last.unit)

-- and a section ends there
pub ends_main : (document : Document) (right : IsValidDocument document) → IsSome (main_ends document right).item.sect
ends_main document right =
    let last = main_ends document right in
    let some = last.some in
    let placed = (main_right document right).placed (length document.main - 1) last.item last.here in
    placed.section.last refl (let e : length document.main - 1 + 1 ≡ length document.main = omega (arith, some) in e)

pub last_ends : (document : Document) → IsValidDocument document →
    EndsParagraph document.main (length document.main - 1)
last_ends document right =
    let last = main_ends document right in
    record { item = last.item; here = last.here; marked = last_marked document right }

-- a paragraph ends from each item on
pub some_end : (document : Document) (pos : ℕ) → IsValidDocument document → pos < length document.main →
    ¬ (HasNoParagraphEnd document.main pos)
some_end document pos right h none = none (length document.main - 1) (omega (arith, h)) (last_ends document right)

-- ---- well-formed items

-- the maps of items are those of their places
pub maps_there : (items : List Item) (at : ℕ) (item : Item) → IsFormedText items → slice_get items at ≡ Some item →
    HasPropertyMaps item
maps_there items at item formed here =
    let each = All-get_or IsFormedItem items at item (slice_get_within items at item here) formed.each in
    let same : IsFormedItem item = subst IsFormedItem (get_or_from_slice_get items at item item here) each in
    same.maps

pub item_map : (items : List Item) (at : ℕ) (item : Item) → IsFormedText items → slice_get items at ≡ Some item →
    IsPropertyMap character_groups item.chp
item_map items at item formed here = (maps_there items at item formed here).chp
