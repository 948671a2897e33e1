-- A right text stays right where its styles are renumbered.
use Rattle.std.proofs.Common.{◌≡◌, ◌∙◌, inl, inr, refl, sym, ap, subst, ℕ, ◌+◌, ◌-◌, ◌==◌, true}
use Rattle.std.proofs.Common.{false, cond, not, ◌&&◌, List, [], ◌∷◌, length, map, take, Option, Some, None}
use Rattle.std.proofs.Common.{option_map, is_some, arith}
use Rattle.std.specs.Prelude.{slice_get}
use Rattle.std.specs.List.{filter}
use Rattle.std.proofs.lemmas.List.{length-map}
use Rattle.std.proofs.lemmas.Option.{slice_get-map, same_Some, slice_get_within}
use Rattle.doc_bits.proofs.Public.{from_map}
use Rattle.doc_bits.specs.declared.places.Where.{Where}
use Rattle.doc_bits.specs.declared.places.Where.TheVariants.{Main}
use Rattle.text_codes.specs.Paragraph.{cell_mark}
use Rattle.prop_map.specs.Formed.{IsPropertyMap, character_groups}
use Rattle.style_sheet.specs.Sheet.{Sheet}
use Rattle.style_sheet.specs.Chain.{style_kind_at}
use Rattle.style_sheet.proofs.Public.{there}
use Rattle.doc_model.specs.declared.item.Item.{Item}
use Rattle.doc_model.specs.declared.item.Mark.{Mark}
use Rattle.doc_model.specs.Document.{IsFormedText}
use Rattle.plain_doc.specs.Nesting.{field_characters, AreNestedFields, most_open}
use Rattle.plain_doc.specs.Rows.{mark_value_in, paragraph_value, is_byte_one, is_row_mark, is_cell_mark}
use Rattle.plain_doc.specs.Rows.{is_mark_outside, HasCells}
use Rattle.plain_doc.specs.Rows.{FitsRow, open_cells, cells_after}
use Rattle.plain_doc.specs.RulesOfItems.{HasMarkRight, IsPlacedRight, HasShortProperties, IsShortPap}
use Rattle.plain_doc.specs.RulesOfTexts.{IsHead, last_unit, HasParagraphStyle}
use Rattle.plain_doc.specs.RightDocument.{IsValidText}
use Rattle.doc_join.specs.declared.renumbering.Renumbering.{Renumbering}
use Rattle.doc_join.specs.Texts.{renumbered_item, renumbered_mark, renumbered_text}
use Rattle.doc_join.proofs.SettingLemmas.{renumbered_length}
use Rattle.doc_join.proofs.TextLemmas.{mark_keeps, moved_some}
use Rattle.doc_join.proofs.PartLemmas.{IsSheetPart}
use Rattle.doc_join.proofs.CellLemmas.{CountAlike, cells_alike, alike_upto}
use Rattle.plain_doc.proofs.Public.{item_map}

-- ---- what an item says stays

value_same : (numbers : Renumbering) (mark : Option Mark) (code : ℕ) →
    mark_value_in (option_map (renumbered_mark numbers) mark) code ≡ mark_value_in mark code
value_same numbers None code = refl
value_same numbers (Some mark) code = refl

row_same : (numbers : Renumbering) (item : Item) → is_row_mark (renumbered_item numbers item) ≡ is_row_mark item
row_same numbers item = ap (λ o. item.unit == cell_mark && is_byte_one o) (value_same numbers item.mark 0x2417)

cell_same : (numbers : Renumbering) (item : Item) → is_cell_mark (renumbered_item numbers item) ≡ is_cell_mark item
cell_same numbers item = ap (λ o. item.unit == cell_mark && not (is_byte_one o)) (value_same numbers item.mark 0x2417)

outside_same : (numbers : Renumbering) (item : Item) →
    is_mark_outside (renumbered_item numbers item) ≡ is_mark_outside item
outside_same numbers item =
    ap (λ o.
    is_some (option_map (renumbered_mark numbers) item.mark) && (not (item.unit == cell_mark) && not (is_byte_one o)))
    (value_same numbers item.mark 0x2416)
    ∙ ap (λ b. b && (not (item.unit == cell_mark) && not (is_byte_one (paragraph_value item 0x2416))))
    (moved_some numbers item.mark)

pub row_fits : (numbers : Renumbering) (cells : ℕ) (item : Item) → FitsRow cells item →
    FitsRow cells (renumbered_item numbers item)
row_fits numbers cells item fits = record {
  row = λ is.
      subst (λ o. HasCells o cells) (sym (value_same numbers item.mark 0xD608))
      (fits.row (sym (row_same numbers item) ∙ is));
  outside = λ is. fits.outside (sym (outside_same numbers item) ∙ is);
}

counts_alike : (numbers : Renumbering) (text : List Item) → CountAlike (renumbered_text numbers text) text
counts_alike numbers text = record {
  long = length-map text (renumbered_item numbers);
  each = λ i x y cells here there.
      let found = from_map (renumbered_item numbers) text i x here in
      let same : found.0 ≡ y = same_Some found.0 y (sym found.1.0 ∙ there) in
      subst (λ z. cells_after cells z ≡ cells_after cells y) found.1.1
      (ap (λ b. cond b 0 (cond (is_cell_mark (renumbered_item numbers found.0)) (cells + 1) cells))
      (row_same numbers found.0)
      ∙ (ap (λ b. cond (is_row_mark found.0) 0 (cond b (cells + 1) cells)) (cell_same numbers found.0)
      ∙ ap (cells_after cells) same));
}

mark_right : (numbers : Renumbering) (item : Item) → HasMarkRight item → HasMarkRight (renumbered_item numbers item)
mark_right numbers item right = (
  λ some. right.0 (sym (moved_some numbers item.mark) ∙ some),
  λ ends. moved_some numbers item.mark ∙ right.1 ends,
)

-- where the place of a text changes, it does not become the main text, nor does that become another
pub record IsLikePart (part other : Where) : Type 0 where
  pub main : part ≡ Main → other ≡ Main
  pub back : other ≡ Main → part ≡ Main
  pub head : IsHead part → IsHead other

placed_right : (numbers : Renumbering) (part other : Where) (len place : ℕ) (item : Item) → IsLikePart part other →
    IsPlacedRight part len place item → IsPlacedRight other len place (renumbered_item numbers item)
placed_right numbers part other len place item like right = record {
  mark = mark_right numbers item right.mark;
  section = record {
    alone = λ some. let alone = right.section.alone some in (like.main alone.0, alone.1);
    last = λ main end. right.section.last (like.back main) end;
  };
  field = right.field;
  note = λ some. like.main (right.note some);
}

style_right : (numbers : Renumbering) (sheet joined : Sheet) (item : Item) → IsSheetPart numbers sheet joined →
    HasParagraphStyle sheet item → HasParagraphStyle joined (renumbered_item numbers item)
style_right numbers sheet joined item part right =
    mark_keeps (λ mark. style_kind_at sheet mark.istd ≡ 1) (λ mark. style_kind_at joined mark.istd ≡ 1) numbers
    item.mark
    (λ mark para.
    part.kinds mark.istd
    (let here = there sheet mark.istd (omega (arith, para)) in omega (arith, here, part.slots))
    ∙ para)
    right

short_right : (numbers : Renumbering) (item : Item) → IsPropertyMap character_groups item.chp →
    HasShortProperties item → HasShortProperties (renumbered_item numbers item)
short_right numbers item formed short = record {
  chp = let few = short.chp in omega (arith, few, renumbered_length numbers item.chp formed);
  pap =
      mark_keeps (λ mark. IsShortPap mark.pap) (λ mark. IsShortPap mark.pap) numbers item.mark (λ mark held. held)
      short.pap;
  sect = short.sect;
}

-- ---- the text

fields_same : (numbers : Renumbering) (text : List Item) →
    field_characters (renumbered_text numbers text) ≡ field_characters text
fields_same numbers [] = refl
fields_same numbers (item ∷ text) =
    elim (is_some item.fld) as (λ b.
    map (λ (x : Item). x.unit) (cond b (renumbered_item numbers item ∷ filter (λ (x : Item). is_some x.fld)
    (renumbered_text numbers text)) (filter (λ (x : Item). is_some x.fld) (renumbered_text numbers text)))
    ≡ map (λ (x : Item). x.unit) (cond b (item ∷ filter (λ (x : Item). is_some x.fld) text)
    (filter (λ (x : Item). is_some x.fld) text))) [
      | true ↦ ap (λ units. item.unit ∷ units) (fields_same numbers text)
      | false ↦ fields_same numbers text
    ]

last_same : (numbers : Renumbering) (text : List Item) → last_unit (renumbered_text numbers text) ≡ last_unit text
last_same numbers text =
    ap (λ n. option_map (λ (item : Item). item.unit) (slice_get (renumbered_text numbers text) (n - 1)))
    (length-map text (renumbered_item numbers))
    ∙ (ap (option_map (λ (item : Item). item.unit)) (slice_get-map (renumbered_item numbers) text (length text - 1))
    ∙ unit_same (slice_get text (length text - 1)))
  where
    unit_same : (o : Option Item) → option_map (λ (item : Item). item.unit) (option_map (renumbered_item numbers) o)
        ≡ option_map (λ (item : Item). item.unit) o
    unit_same None = refl
    unit_same (Some item) = refl

-- what holds of each item at its place holds of each renumbered one
each_right : (numbers : Renumbering) (text : List Item) (P Q : ℕ → Item → Type 0) →
    ((i : ℕ) (item : Item) → slice_get text i ≡ Some item → P i item → Q i (renumbered_item numbers item)) →
    ((i : ℕ) (item : Item) → slice_get text i ≡ Some item → P i item) →
    (i : ℕ) (item : Item) → slice_get (renumbered_text numbers text) i ≡ Some item → Q i item
each_right numbers text P Q step held i item here =
    let found = from_map (renumbered_item numbers) text i item here in
    subst (Q i) found.1.1 (step i found.0 found.1.0 (held i found.0 found.1.0))

pub text_stays_right : (numbers : Renumbering) (sheet joined : Sheet) (part other : Where) (text : List Item) →
    IsSheetPart numbers sheet joined → IsLikePart part other → IsFormedText text → IsValidText sheet part text →
    IsValidText joined other (renumbered_text numbers text)
text_stays_right numbers sheet joined part other text within like formed right =
    let made = renumbered_text numbers text in
    let long = length-map text (renumbered_item numbers) in
    let alike = counts_alike numbers text in
    record {
      ends = elim right.ends [
        | inl unit ↦ inl (last_same numbers text ∙ unit)
        | inr head ↦ inr (like.head head.0, ap (renumbered_text numbers) head.1)
      ];
      placed =
          subst (λ len. (i : ℕ) (item : Item) → slice_get made i ≡ Some item → IsPlacedRight other len i item)
          (sym long)
          (each_right numbers text (IsPlacedRight part (length text)) (IsPlacedRight other (length text))
          (λ i item here. placed_right numbers part other (length text) i item like) right.placed);
      fields = subst (AreNestedFields most_open) (sym (fields_same numbers text)) right.fields;
      rows =
          each_right numbers text (λ i item. FitsRow (open_cells (take i text)) item)
          (λ i item. FitsRow (open_cells (take i made)) item)
          (λ i item here fits.
          let low = slice_get_within text i item here in
          subst (λ cells. FitsRow cells (renumbered_item numbers item))
          (sym (alike_upto made text i alike (omega (arith, low, long))))
          (row_fits numbers (open_cells (take i text)) item fits))
          right.rows;
      row_ends = cells_alike made text alike ∙ right.row_ends;
      styles =
          each_right numbers text (λ i item. HasParagraphStyle sheet item) (λ i item. HasParagraphStyle joined item)
          (λ i item here. style_right numbers sheet joined item within) right.styles;
      short =
          each_right numbers text (λ i item. HasShortProperties item) (λ i item. HasShortProperties item)
          (λ i item here. short_right numbers item (item_map text i item formed here)) right.short;
    }
