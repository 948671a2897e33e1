-- Two right main texts are right one behind the other, where the first one's section is ended.
use Rattle.std.proofs.Common.{◌≡◌, ◌∙◌, inl, inr, refl, sym, ap, subst, ℕ, suc, ◌+◌, ◌-◌, ◌<◌, ◌≤◌, ◌==◌, true}
use Rattle.std.proofs.Common.{false}
use Rattle.std.proofs.Common.{cond, not, ◌&&◌, List, [], ◌∷◌, ◌++◌, length, map, take, drop, Option, Some, None}
use Rattle.std.proofs.Common.{option_map, is_some, arith, length-append}
use Rattle.std.proofs.Math.Seq.{take-append-add, drop-cons}
use Rattle.std.specs.Prelude.{slice_get}
use Rattle.std.specs.List.{flat_map}
use Rattle.std.proofs.lemmas.Bool.{cases_lt, cases_Bool}
use Rattle.std.proofs.lemmas.Grind.{flat_map-append}
use Rattle.std.proofs.lemmas.List.{take-append-le, take-append-drop, drop_all}
use Rattle.std.proofs.lemmas.List.Elements.{All-append}
use Rattle.std.proofs.lemmas.Option.{get_or_from_slice_get, same_Some, slice_get_within, none-some}
use Rattle.doc_bits.proofs.Public.{slice_get_before, slice_get_push, in_front, from_behind}
use Rattle.doc_bits.specs.Places.{rank}
use Rattle.doc_bits.specs.declared.places.Where.TheVariants.{Main}
use Rattle.text_codes.specs.Paragraph.{paragraph_mark, cell_mark}
use Rattle.style_sheet.specs.Sheet.{Sheet}
use Rattle.doc_model.specs.declared.item.Item.{Item}
use Rattle.plain_doc.specs.Nesting.{field_characters, IsField, AreNestedFields, most_open}
use Rattle.plain_doc.specs.Rows.{paragraph_value, is_byte_one, is_mark_outside, FitsRow, open_cells, cells_after}
use Rattle.plain_doc.specs.RulesOfItems.{IsPlacedRight, HasShortProperties}
use Rattle.plain_doc.specs.RulesOfTexts.{last_unit, HasParagraphStyle}
use Rattle.plain_doc.specs.RightDocument.{IsValidText}
use Rattle.doc_join.specs.Texts.{ending_section, section_ended}
use Rattle.doc_join.proofs.CellLemmas.{cells_behind}
use Rattle.plain_doc.proofs.Public.{characters-append, no_character}
use Rattle.doc_columns.proofs.Public.{cells_onto_last}

-- ---- the items of the joined text

-- what holds of each item of the front, of the one between and of those behind holds of all
each_item : (front : List Item) (item : Item) (other : List Item) (P : ℕ → Item → Type 0) →
    ((i : ℕ) (made : Item) → slice_get front i ≡ Some made → P i made) → P (length front) item →
    ((j : ℕ) (made : Item) → slice_get other j ≡ Some made → P (length front + 1 + j) made) →
    (i : ℕ) (made : Item) → slice_get ((front ++ item ∷ []) ++ other) i ≡ Some made → P i made
each_item front item other P before here behind i made is =
    let first = front ++ item ∷ [] in
    let long = length-append front (item ∷ []) in
    elim (cases_lt i (length first)) [
      | inl low ↦
          let inside : slice_get first i ≡ Some made = sym (slice_get_before first other i low) ∙ is in
          elim (cases_lt i (length front)) [
            | inl early ↦ before i made (sym (slice_get_before front (item ∷ []) i early) ∙ inside)
            | inr late ↦
                let end : i ≡ length front = omega (arith, late, low, long) in
                let same : item ≡ made =
                same_Some item made (sym (slice_get_push front item) ∙ (ap (slice_get first) (sym end) ∙ inside)) in
                subst (λ n. P n made) (sym end) (subst (P (length front)) same here)
          ]
      | inr high ↦
          let j = i - length first in
          let at : i ≡ length first + j = omega (arith, high) in
          let place : length front + 1 + j ≡ i = omega (arith, at, long) in
          subst (λ n. P n made) place
          (behind j made (sym (from_behind first other j) ∙ (ap (slice_get (first ++ other)) (sym at) ∙ is)))
    ]

-- ---- fields

fields_joined : (depth : ℕ) (one other : List ℕ) → AreNestedFields (suc depth) one → AreNestedFields (suc depth) other →
    AreNestedFields (suc depth) (one ++ other)
unfolding AreNestedFields
fields_joined depth one other first second = record {
  fields = first.fields ++ second.fields;
  each = All-append (IsField (AreNestedFields depth)) first.fields second.fields first.each second.each;
  joined =
      ap (λ (units : List ℕ). units ++ other) first.joined
      ∙ (ap (λ (units : List ℕ). flat_map (λ (field : List ℕ). field) first.fields ++ units) second.joined
      ∙ sym (flat_map-append (λ (field : List ℕ). field) first.fields second.fields));
}

-- ---- the last item of the first text

-- the text with its last item apart
pub record HasLast (text : List Item) : Type 0 where
  pub front : List Item
  pub item : Item
  pub split : text ≡ front ++ item ∷ []
  pub ended : section_ended text ≡ front ++ ending_section item ∷ []
  pub unit : item.unit ≡ paragraph_mark

unit_some : (o : Option Item) → option_map (λ (item : Item). item.unit) o ≡ Some paragraph_mark →
    (item : Item) × ((o ≡ Some item) × (item.unit ≡ paragraph_mark))
unit_some None is = absurd (none-some paragraph_mark is)
unit_some (Some item) is = (item, (refl, same_Some item.unit paragraph_mark is))

pub has_last : (text : List Item) → last_unit text ≡ Some paragraph_mark → HasLast text
has_last text is =
    let last = length text - 1 in
    let found = unit_some (slice_get text last) is in
    let item = found.0 in
    let within = slice_get_within text last item found.1.0 in
    let rest : drop (suc last) text ≡ [] = drop_all (suc last) text (omega (arith, within)) in
    let back : drop last text ≡ item ∷ [] =
    drop-cons text last item within
    ∙ (ap (λ (x : Item). x ∷ drop (suc last) text) (get_or_from_slice_get text last item item found.1.0)
    ∙ ap (λ (more : List Item). item ∷ more) rest) in
    record {
      front = take last text;
      item = item;
      split = sym (take-append-drop last text) ∙ ap (λ (more : List Item). take last text ++ more) back;
      ended = ap (λ more. take last text ++ map ending_section more) back;
      unit = found.1.1;
    }

pub main_ends : (sheet : Sheet) (text : List Item) → IsValidText sheet Main text → last_unit text ≡ Some paragraph_mark
main_ends sheet text right = elim right.ends [
  | inl unit ↦ unit
  | inr head ↦ let same = ap rank head.0.1 in absurd (omega (arith, same))
]

-- ---- one behind the other

last_joined : (one other : List Item) → 0 < length other → last_unit (one ++ other) ≡ last_unit other
last_joined one other some =
    let long = length-append one other in
    let at : length (one ++ other) - 1 ≡ length one + (length other - 1) = omega (arith, long, some) in
    ap (λ n. option_map (λ (item : Item). item.unit) (slice_get (one ++ other) n)) at
    ∙ ap (option_map (λ (item : Item). item.unit)) (from_behind one other (length other - 1))

no_field : (item : Item) → item.unit ≡ paragraph_mark →
    (is_some item.fld ≡ true → (0x13 ≤ item.unit) × (item.unit ≤ 0x15)) →
    is_some item.fld ≡ false
no_field item unit right = elim (cases_Bool (is_some item.fld)) [
  | inl some ↦ let low = (right some).0 in absurd (omega (arith, low, unit))
  | inr none ↦ none
]

outside_ended : (item : Item) → item.unit ≡ paragraph_mark →
    is_mark_outside item ≡ is_mark_outside (ending_section item)
outside_ended item unit =
    ap (λ u. is_some item.mark && (not (u == cell_mark) && not (is_byte_one (paragraph_value item 0x2416)))) unit

count_ended : (item : Item) (cells : ℕ) → item.unit ≡ paragraph_mark →
    cells_after cells item ≡ cells_after cells (ending_section item)
count_ended item cells unit =
    ap (λ u.
    cond (u == cell_mark && is_byte_one (paragraph_value item 0x2417)) 0
    (cond (u == cell_mark && not (is_byte_one (paragraph_value item 0x2417))) (cells + 1) cells)) unit

row_ended : (item : Item) (cells : ℕ) → item.unit ≡ paragraph_mark → FitsRow cells item →
    FitsRow cells (ending_section item)
row_ended item cells unit fits = record {
  row = λ is. absurd (cc (is));
  outside = λ is. fits.outside (outside_ended item unit ∙ is);
}

pub joined_right : (sheet : Sheet) (front : List Item) (item : Item) (other : List Item) →
    IsValidText sheet Main (front ++ item ∷ []) → item.unit ≡ paragraph_mark → IsValidText sheet Main other →
    0 < length other → IsValidText sheet Main ((front ++ ending_section item ∷ []) ++ other)
joined_right sheet front item other one unit two some =
    let made = ending_section item in
    let first = front ++ item ∷ [] in
    let ended = front ++ made ∷ [] in
    let whole = ended ++ other in
    let long_first = length-append front (item ∷ []) in
    let long_ended = length-append front (made ∷ []) in
    let long = length-append ended other in
    let here : slice_get first (length front) ≡ Some item = slice_get_push front item in
    let placed = one.placed (length front) item here in
    let none = no_field item unit placed.field in
    let closed : open_cells ended ≡ 0 =
    cells_onto_last front made
    ∙ (sym (count_ended item (open_cells front) unit) ∙ (sym (cells_onto_last front item) ∙ one.row_ends)) in
    record {
      ends = inl (last_joined ended other some ∙ main_ends sheet other two);
      placed =
          each_item front made other (IsPlacedRight Main (length whole))
          (λ i x at.
          let within = slice_get_within front i x at in
          let old = one.placed i x (in_front front (item ∷ []) i x at) in
          record {
            mark = old.mark;
            section = record {
              alone = λ is. elim (old.section.alone is).1 [
                | inl end ↦ absurd (omega (arith, end, within, long_first))
                | inr mark ↦ (refl, inr mark)
              ];
              last = λ main end. absurd (omega (arith, end, within, long, long_ended));
            };
            field = old.field;
            note = old.note;
          })
          (record {
            mark = (
              λ marked. inr (inr (placed.section.last refl (omega (arith, long_first)))),
              λ ends. placed.mark.1 (inl unit),
            );
            section = record {
              alone = λ is. (refl, inr refl);
              last = λ main end. absurd (omega (arith, end, some, long, long_ended));
            };
            field = λ is. absurd (cc (is, none));
            note = λ is. refl;
          })
          (λ j x at.
          let old = two.placed j x at in
          record {
            mark = old.mark;
            section = record {
              alone = λ is. elim (old.section.alone is).1 [
                | inl end ↦ (refl, inl (omega (arith, end, long, long_ended)))
                | inr mark ↦ (refl, inr mark)
              ];
              last = λ main end. old.section.last refl (omega (arith, end, long, long_ended));
            };
            field = old.field;
            note = old.note;
          });
      fields =
          subst (AreNestedFields most_open)
          (sym (characters-append ended other
          ∙ ap (λ (units : List ℕ). units ++ field_characters other)
          (characters-append front (made ∷ []) ∙ ap (λ (units : List ℕ). field_characters front ++ units)
          (no_character made none))))
          (fields_joined 127 (field_characters front ++ []) (field_characters other)
          (subst (AreNestedFields most_open)
          (characters-append front (item ∷ []) ∙ ap (λ (units : List ℕ). field_characters front ++ units)
          (no_character item none))
          one.fields)
          two.fields);
      rows =
          each_item front made other (λ i x. FitsRow (open_cells (take i whole)) x)
          (λ i x at.
          let within = slice_get_within front i x at in
          let same : take i first ≡ take i whole =
          take-append-le i front (item ∷ []) (omega (arith, within))
          ∙ (sym (take-append-le i front (made ∷ []) (omega (arith, within)))
          ∙ sym (take-append-le i ended other (omega (arith, within, long_ended)))) in
          subst (λ t. FitsRow (open_cells t) x) same (one.rows i x (in_front front (item ∷ []) i x at)))
          (let same : take (length front) first ≡ take (length front) whole =
          take-append-le (length front) front (item ∷ []) (omega arith)
          ∙ (sym (take-append-le (length front) front (made ∷ []) (omega arith))
          ∙ sym (take-append-le (length front) ended other (omega (arith, long_ended)))) in
          subst (λ t. FitsRow (open_cells t) made) same
          (row_ended item (open_cells (take (length front) first)) unit (one.rows (length front) item here)))
          (λ j x at.
          let place : length front + 1 + j ≡ length ended + j = omega (arith, long_ended) in
          let same : open_cells (take (length front + 1 + j) whole) ≡ open_cells (take j other) =
          ap (λ n. open_cells (take n whole)) place
          ∙ (ap open_cells (take-append-add ended other j) ∙ cells_behind ended (take j other) closed) in
          subst (λ cells. FitsRow cells x) (sym same) (two.rows j x at));
      row_ends = cells_behind ended other closed ∙ two.row_ends;
      styles =
          each_item front made other (λ i x. HasParagraphStyle sheet x)
          (λ i x at. one.styles i x (in_front front (item ∷ []) i x at)) (one.styles (length front) item here)
          (λ j x at. two.styles j x at);
      short =
          each_item front made other (λ i x. HasShortProperties x)
          (λ i x at. one.short i x (in_front front (item ∷ []) i x at))
          (let old = one.short (length front) item here in record { chp = old.chp; pap = old.pap; sect = old.sect })
          (λ j x at. two.short j x at);
    }

pub main_joined_right : (sheet : Sheet) (one other : List Item) → IsValidText sheet Main one →
    IsValidText sheet Main other → 0 < length other → IsValidText sheet Main (section_ended one ++ other)
main_joined_right sheet one other first second some =
    let last = has_last one (main_ends sheet one first) in
    subst (λ text. IsValidText sheet Main (text ++ other)) (sym last.ended)
    (joined_right sheet last.front last.item other (subst (IsValidText sheet Main) last.split first) last.unit second
    some)
