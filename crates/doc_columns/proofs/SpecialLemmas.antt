-- A text is right where its bare items are, and the text of its special items is.
use Rattle.std.proofs.Common.{◌≡◌, inl, inr, ℕ, zero, suc, ◌+◌, ◌-◌, ◌<◌, ◌≤◌, Bool, true, false, cond, not, ◌||◌}
use Rattle.std.proofs.Common.{◌&&◌, List, [], ◌∷◌, ◌++◌, length, take, drop, get_or, map, Option, Some, refl, sym}
use Rattle.std.proofs.Common.{◌∙◌, ap, subst, arith, add-one, drop-cons, length-append}
use Rattle.std.specs.Prelude.{is_some, slice_get, option_map, IsTrue}
use Rattle.std.specs.List.{All, filter, count_by}
use Rattle.std.specs.Option.{ForSome}
use Rattle.std.proofs.Math.Dec.{eqb}
use Rattle.std.proofs.Math.Seq.{take-append_seam, take-length, take-add, get_or-append_seam}
use Rattle.std.proofs.lemmas.Bool.{or_parts, cases_lt, ne_eqb}
use Rattle.std.proofs.lemmas.List.{append-nil, take_all, take_more, take-append-drop, length-map}
use Rattle.std.proofs.lemmas.List.Elements.{filter-append, All-get_or, All-take}
use Rattle.std.proofs.lemmas.List.Filters.{length-filter_more}
use Rattle.std.proofs.lemmas.List.Sums.{sum_by-cons}
use Rattle.std.proofs.lemmas.Option.{slice_get_within, slice_get-get_or, get_or_from_slice_get, slice_get-map}
use Rattle.doc_bits.specs.declared.places.Where.{Where}
use Rattle.doc_bits.specs.declared.places.Where.TheVariants.{File, Wd, Table, Sheet as SheetPart, Main, Note, Head}
use Rattle.text_codes.specs.Paragraph.{cell_mark, is_paragraph_end}
use Rattle.style_sheet.specs.Sheet.{Sheet}
use Rattle.style_sheet.specs.Chain.{style_kind_at, HasSoundBases}
use Rattle.style_sheet.specs.Written.{IsWritable}
use Rattle.doc_model.specs.declared.item.Item.{Item}
use Rattle.doc_model.specs.declared.document.Document.{Document}
use Rattle.plain_doc.specs.declared.rules_texts.ItemRule.{ItemRule}
use Rattle.plain_doc.specs.declared.rules_texts.ItemRule.TheVariants.{Placing, Styles, Properties}
use Rattle.plain_doc.specs.declared.text_walk.TextWalk.{TextWalk}
use Rattle.plain_doc.specs.Nesting.{field_characters, most_open, AreNestedFields}
use Rattle.plain_doc.specs.Rows.{FitsRow, open_cells, cells_after, is_byte_one, paragraph_value}
use Rattle.plain_doc.specs.RulesOfItems.{IsPlacedRight, HasShortProperties, IsShortChp, IsShortPap, IsShortSect}
use Rattle.plain_doc.specs.RulesOfTexts.{EndsRight, HasParagraphStyle, text_of_place}
use Rattle.plain_doc.specs.RulesOfSheet.{note_count, section_count, heads_of_sections, item_count, most_items}
use Rattle.plain_doc.specs.RulesOfSheet.{HasShortStyle}
use Rattle.plain_doc.specs.RightDocument.{HoldsAtItems, IsValidText}
use Rattle.plain_doc.specs.OpenFields.{after_field_character}
use Rattle.plain_doc.specs.Sound.{IsSound}
use Rattle.plain_doc.specs.TextRules.{IsValidItem}
use Rattle.plain_doc.specs.TextWalk.{PassesItem}
use Rattle.plain_doc.proofs.Public.{open_cells_more, last_is_mark, sound_is_valid, right_is_sound}
use Rattle.doc_columns.specs.Specials.{is_special_item, special_items, IsPlainUnit, HasValidBareItems, AreSpecialsOf}
use Rattle.doc_columns.specs.Marks.{AreValidBookmarks}

-- ---- units of no mark

not_both : true ≡ false → ⊥
not_both same = cc

-- a unit that ends no paragraph where no section ends
pub plain_unit : (unit : ℕ) → is_paragraph_end unit false ≡ false → IsPlainUnit unit
plain_unit unit none = record {
  paragraph = λ is. not_both (subst (λ n. is_paragraph_end n false ≡ false) is none);
  cell = λ is. not_both (subst (λ n. is_paragraph_end n false ≡ false) is none);
}

-- ---- what a bare item lacks

record Bare (item : Item) : Type 0 where
  mark : is_some item.mark ≡ false
  sect : is_some item.sect ≡ false
  fld : is_some item.fld ≡ false
  note : is_some item.note ≡ false

bare_parts : (item : Item) → is_special_item item ≡ false → Bare item
bare_parts item bare =
    let first = or_parts (is_some item.mark) (is_some item.sect || (is_some item.fld || is_some item.note)) bare in
    let second = or_parts (is_some item.sect) (is_some item.fld || is_some item.note) first.1 in
    let third = or_parts (is_some item.fld) (is_some item.note) second.1 in
    record { mark = first.0; sect = second.0; fld = third.0; note = third.1 }

not_there : (b : Bool) → b ≡ false → IsTrue b → ⊥
not_there b none there = cc

-- it is right anywhere but at the end
bare_placed : (part : Where) (len place : ℕ) (item : Item) → is_special_item item ≡ false → IsPlainUnit item.unit →
    (place + 1 ≡ len → ⊥) → IsPlacedRight part len place item
bare_placed part len place item bare plain inside =
    let lacks = bare_parts item bare in
    record {
      mark = (
        λ there. absurd (not_there (is_some item.mark) lacks.mark there),
        λ ends. elim ends [
          | inl paragraph ↦ absurd (plain.paragraph paragraph)
          | inr more ↦ elim more [
            | inl cell ↦ absurd (plain.cell cell)
            | inr there ↦ absurd (not_there (is_some item.sect) lacks.sect there)
          ]
        ],
      );
      section =
          record {
            alone = λ there. absurd (not_there (is_some item.sect) lacks.sect there);
            last = λ main end. absurd (inside end);
          };
      field = λ there. absurd (not_there (is_some item.fld) lacks.fld there);
      note = λ there. absurd (not_there (is_some item.note) lacks.note there);
    }

-- the unit of a bare item of such a text
plain_at : (text : List Item) → HasValidBareItems text → (i : ℕ) (item : Item) → slice_get text i ≡ Some item →
    is_special_item item ≡ false → IsPlainUnit item.unit
plain_at text right i item there =
    subst (λ (x : Item). is_special_item x ≡ false → IsPlainUnit x.unit) (get_or_from_slice_get text i item item there)
    (All-get_or (λ (x : Item). is_special_item x ≡ false → IsPlainUnit x.unit) text i item
    (slice_get_within text i item there) right.plain)

-- ---- the special items of a front

pub special-cons : (has : Bool) (item : Item) (text : List Item) → is_special_item item ≡ has →
    special_items (item ∷ text) ≡ cond has (item ∷ special_items text) (special_items text)
special-cons has item text is = ap (λ (b : Bool). cond b (item ∷ special_items text) (special_items text)) is

-- an item, and those behind it
item_and_rest : (text : List Item) (i : ℕ) (item : Item) → slice_get text i ≡ Some item →
    drop i text ≡ item ∷ drop (i + 1) text
item_and_rest text i item there =
    subst (λ (n : ℕ). drop i text ≡ item ∷ drop n text) (sym (add-one i))
    (drop-cons text i item (slice_get_within text i item there)
    ∙ ap (λ (x : Item). x ∷ drop (suc i) text) (get_or_from_slice_get text i item item there))

-- the special items of a text around one of them
around : (text : List Item) (i : ℕ) (item : Item) → slice_get text i ≡ Some item → is_special_item item ≡ true →
    special_items text ≡ special_items (take i text) ++ (item ∷ special_items (drop (i + 1) text))
around text i item there special =
    ap special_items (sym (take-append-drop i text)) ∙ filter-append is_special_item (take i text) (drop i text)
    ∙ ap (λ (rest : List Item). special_items (take i text) ++ special_items rest) (item_and_rest text i item there)
    ∙ ap (λ (rest : List Item). special_items (take i text) ++ rest)
    (special-cons true item (drop (i + 1) text) special)

-- a front that is longer has no fewer of them
more_specials : (text : List Item) (i k : ℕ) → i ≤ k →
    length (special_items (take i text)) ≤ length (special_items (take k text))
more_specials text i k le =
    let sum : i + (k - i) ≡ k = omega arith in
    let parts : special_items (take k text) ≡ special_items (take i text) ++ special_items (take (k - i)
    (drop i text)) =
    ap (λ (n : ℕ). special_items (take n text)) (sym sum) ∙ ap special_items (take-add i (k - i) text)
    ∙ filter-append is_special_item (take i text) (take (k - i) (drop i text)) in
    omega (
      arith,
      ap length parts,
      length-append (special_items (take i text)) (special_items (take (k - i) (drop i text))),
    )

-- one item more of a front
special_more : (text : List Item) (i : ℕ) (item : Item) → slice_get text i ≡ Some item → is_special_item item ≡ true →
    length (special_items (take (i + 1) text)) ≡ length (special_items (take i text)) + 1
special_more text i item there special =
    let within = slice_get_within text i item there in
    let here : is_special_item (get_or text i item) ≡ true =
    ap is_special_item (get_or_from_slice_get text i item item there) ∙ special in
    length-filter_more is_special_item text i item within
    ∙ ap (λ (b : Bool). length (special_items (take i text)) + cond b 1 0) here

-- ---- the last item

last_by : (has : Bool) (text : List Item) → HasValidBareItems text → (i : ℕ) (item : Item) →
    slice_get text i ≡ Some item → i + 1 ≡ length text → is_special_item item ≡ has → is_special_item item ≡ true
last_by true text right i item there end is = is
last_by false text right i item there end is =
    let within = slice_get_within text i item there in
    let here : get_or text i item ≡ item = get_or_from_slice_get text i item item there in
    let plain = plain_at text right i item there is in
    elim right.ends [
      | inl empty ↦ absurd (let none : length text ≡ 0 = ap length empty in omega arith)
      | inr last ↦ absurd (plain.paragraph (last_is_mark text i item within (sym here) (inl last) end))
    ]

-- the last item is a special one
last_special : (text : List Item) → HasValidBareItems text → (i : ℕ) (item : Item) → slice_get text i ≡ Some item →
    i + 1 ≡ length text → is_special_item item ≡ true
last_special text right i item there end = last_by (is_special_item item) text right i item there end refl

-- ---- the place of a special item among them

-- a value between two parts
pub seam : {A : Type 0} (front : List A) (x : A) (back : List A) → slice_get (front ++ x ∷ back) (length front) ≡ Some x
seam front x back =
    let within : length front < length (front ++ x ∷ back) = omega (arith, length-append front (x ∷ back)) in
    slice_get-get_or (front ++ x ∷ back) (length front) x within ∙ ap Some (get_or-append_seam front x back x)

-- where it is among the special items, what is before it there, and that both are the last or none
record HasPlace (text : List Item) (i : ℕ) (item : Item) (place : ℕ) : Type 0 where
  there : slice_get (special_items text) place ≡ Some item
  before : take place (special_items text) ≡ special_items (take i text)
  ends : place + 1 ≡ length (special_items text) → i + 1 ≡ length text
  ended : i + 1 ≡ length text → place + 1 ≡ length (special_items text)

none_behind : (text : List Item) → HasValidBareItems text → (i : ℕ) (item : Item) → slice_get text i ≡ Some item →
    is_special_item item ≡ true → length (special_items (take i text)) + 1 ≡ length (special_items text)
    → i + 1 < length text → ⊥
none_behind text right i item there special all more =
    let last = length text - 1 in
    let within : last < length text = omega arith in
    let end : last + 1 ≡ length text = omega arith in
    let one = get_or text last item in
    let one_there : slice_get text last ≡ Some one = slice_get-get_or text last item within in
    let counted = special_more text last one one_there (last_special text right last one one_there end) in
    let whole : length (special_items (take (last + 1) text)) ≡ length (special_items text) =
    ap (λ (items : List Item). length (special_items items)) (take_all (last + 1) text (omega arith)) in
    let two = special_more text i item there special in
    let grown = more_specials text (i + 1) last (omega arith) in
    omega arith

place_of : (text : List Item) → HasValidBareItems text → (i : ℕ) (item : Item) → slice_get text i ≡ Some item →
    is_special_item item ≡ true → HasPlace text i item (length (special_items (take i text)))
place_of text right i item there special =
    let front = special_items (take i text) in
    let back = special_items (drop (i + 1) text) in
    let parts = around text i item there special in
    let within = slice_get_within text i item there in
    record {
      there = ap (λ (items : List Item). slice_get items (length front)) parts ∙ seam front item back;
      before = ap (take (length front)) parts ∙ take-append_seam front (item ∷ back);
      ends = λ all. elim (cases_lt (i + 1) (length text)) [
        | inl more ↦ absurd (none_behind text right i item there special all more)
        | inr none ↦ (let end : i + 1 ≡ length text = omega arith in end)
      ];
      ended = λ end.
          let whole : length (special_items (take (i + 1) text)) ≡ length (special_items text) =
          ap (λ (items : List Item). length (special_items items)) (take_all (i + 1) text (omega arith)) in
          sym (special_more text i item there special) ∙ whole;
    }

-- ---- rows

-- the cells of the open row after one item more
pub cells_onto_last : (front : List Item) (item : Item) → open_cells (front ++ item ∷ []) ≡ cells_after (open_cells
    front)
    item
cells_onto_last front item =
    let text = front ++ item ∷ [] in
    let long : length text ≡ length front + 1 = length-append front (item ∷ []) in
    let here : item ≡ get_or text (length front) item = sym (get_or-append_seam front item [] item) in
    ap open_cells (sym (take_all (length front + 1) text (omega arith)))
    ∙ open_cells_more text (length front) item (omega arith) here
    ∙ ap (λ (items : List Item). cells_after (open_cells items) item) (take-append_seam front (item ∷ []))

no_cell : (cell on : Bool) (n : ℕ) → cell ≡ false → cond (cell && on) 0 (cond (cell && not on) (n + 1) n) ≡ n
no_cell true on n none = absurd (cc)
no_cell false on n none = refl

-- a bare item opens and closes none
same_cells : (cells : ℕ) (item : Item) → IsPlainUnit item.unit → cells_after cells item ≡ cells
same_cells cells item plain =
    no_cell (eqb item.unit cell_mark) (is_byte_one (paragraph_value item 0x2417)) cells
    (ne_eqb item.unit cell_mark plain.cell)

cells_step : (has : Bool) (front : List Item) (item : Item) → (is_special_item item ≡ false → IsPlainUnit item.unit) →
    is_special_item item ≡ has → open_cells (special_items front) ≡ open_cells front
    → open_cells (special_items (front ++ item ∷ [])) ≡ open_cells (front ++ item ∷ [])
cells_step true front item plain is same =
    ap open_cells (filter-append is_special_item front (item ∷ [])
    ∙ ap (λ (items : List Item). special_items front ++ items) (special-cons true item [] is))
    ∙ cells_onto_last (special_items front) item
    ∙ ap (λ (n : ℕ). cells_after n item) same
    ∙ sym (cells_onto_last front item)
cells_step false front item plain is same =
    ap open_cells (filter-append is_special_item front (item ∷ [])
    ∙ ap (λ (items : List Item). special_items front ++ items) (special-cons false item [] is)
    ∙ append-nil (special_items front))
    ∙ same
    ∙ sym (same_cells (open_cells front) item (plain is))
    ∙ sym (cells_onto_last front item)

cells_of_front : (n : ℕ) (text : List Item) (d : Item) → n ≤ length text →
    All (λ item. is_special_item item ≡ false → IsPlainUnit item.unit) text →
    open_cells (special_items (take n text)) ≡ open_cells (take n text)
cells_of_front zero text d le plain = refl
cells_of_front (suc n) text d le plain =
    let within : n < length text = omega (arith, le) in
    let item = get_or text n d in
    subst (λ (items : List Item). open_cells (special_items items) ≡ open_cells items)
    (sym (subst (λ (m : ℕ). take m text ≡ take n text ++ item ∷ []) (add-one n) (take_more text n d within)))
    (cells_step (is_special_item item) (take n text) item
    (All-get_or (λ (x : Item). is_special_item x ≡ false → IsPlainUnit x.unit) text n d within plain) refl
    (cells_of_front n text d (omega (arith, le)) plain))

cells_of_all : (text : List Item) → All (λ item. is_special_item item ≡ false → IsPlainUnit item.unit) text →
    open_cells (special_items text) ≡ open_cells text
cells_of_all [] plain = refl
cells_of_all (item ∷ text) plain =
    let all = item ∷ text in
    subst (λ (items : List Item). open_cells (special_items items) ≡ open_cells items) (take-length all)
    (cells_of_front (length all) all item (omega arith) plain)

-- ---- fields and counts

field_characters-cons : (has : Bool) (item : Item) (text : List Item) → is_some item.fld ≡ has →
    field_characters (item ∷ text) ≡ cond has (item.unit ∷ field_characters text) (field_characters text)
field_characters-cons true item text is =
    ap (λ (b : Bool). map (λ (x : Item). x.unit) (cond b (item ∷ filter (λ (x : Item). is_some x.fld) text)
    (filter (λ (x : Item). is_some x.fld) text))) is
field_characters-cons false item text is =
    ap (λ (b : Bool). map (λ (x : Item). x.unit) (cond b (item ∷ filter (λ (x : Item). is_some x.fld) text)
    (filter (λ (x : Item). is_some x.fld) text))) is

fields_step : (has : Bool) (item : Item) (text : List Item) → is_special_item item ≡ has →
    field_characters (special_items text) ≡ field_characters text
    → field_characters (special_items (item ∷ text)) ≡ field_characters (item ∷ text)
fields_step true item text is same =
    let fld = is_some item.fld in
    ap field_characters (special-cons true item text is)
    ∙ field_characters-cons fld item (special_items text) refl
    ∙ ap (λ (units : List ℕ). cond fld (item.unit ∷ units) units) same
    ∙ sym (field_characters-cons fld item text refl)
fields_step false item text is same =
    ap field_characters (special-cons false item text is)
    ∙ same
    ∙ sym (field_characters-cons false item text (bare_parts item is).fld)

-- the field characters are those of the special items
same_fields : (text : List Item) → field_characters (special_items text) ≡ field_characters text
same_fields [] = refl
same_fields (item ∷ text) = fields_step (is_special_item item) item text refl (same_fields text)

count-cons : (such : Item → Bool) (item : Item) (text : List Item) →
    count_by such (item ∷ text) ≡ cond (such item) 1 0 + count_by such text
count-cons such item text = sum_by-cons (λ (x : Item). cond (such x) 1 0) item text

count_step : (has : Bool) (such : Item → Bool) (item : Item) (text : List Item) →
    (is_special_item item ≡ false → such item ≡ false) → is_special_item item ≡ has
    → count_by such (special_items text) ≡ count_by such text
    → count_by such (special_items (item ∷ text)) ≡ count_by such (item ∷ text)
count_step true such item text none is same =
    ap (count_by such) (special-cons true item text is)
    ∙ count-cons such item (special_items text)
    ∙ ap (λ (n : ℕ). cond (such item) 1 0 + n) same
    ∙ sym (count-cons such item text)
count_step false such item text none is same =
    let nothing : ◌≡◌ {A = ℕ} (cond (such item) 1 0) 0 = ap (λ (b : Bool). cond b 1 0) (none is) in
    let fewer : count_by such (special_items (item ∷ text)) ≡ count_by such (special_items text) =
    ap (count_by such) (special-cons false item text is) in
    omega (arith, count-cons such item text, nothing, fewer, same)

-- what no bare item has is counted among the special ones
same_count : (such : Item → Bool) → ((item : Item) → is_special_item item ≡ false → such item ≡ false) →
    (text : List Item) → count_by such (special_items text) ≡ count_by such text
same_count such none [] = refl
same_count such none (item ∷ text) =
    count_step (is_special_item item) such item text (none item) refl (same_count such none text)

-- ---- the text

placed_by : (has : Bool) (part : Where) (text : List Item) → HasValidBareItems text → (i : ℕ) (item : Item) →
    slice_get text i ≡ Some item → is_special_item item ≡ has
    → HoldsAtItems (special_items text) (IsPlacedRight part (length (special_items text)))
    → IsPlacedRight part (length text) i item
placed_by true part text right i item there is placed =
    let place = place_of text right i item there is in
    let here = placed (length (special_items (take i text))) item place.there in
    record {
      mark = here.mark;
      section =
          record {
            alone = λ some.
                let where_it_is = here.section.alone some in (
                  where_it_is.0,
                  elim where_it_is.1 [ inl end ↦ inl (place.ends end) | inr unit ↦ inr unit ],
                );
            last = λ main end. here.section.last main (place.ended end);
          };
      field = here.field;
      note = here.note;
    }
placed_by false part text right i item there is placed =
    bare_placed part (length text) i item is (plain_at text right i item there is)
    (λ end. let special = last_special text right i item there end in cc)

both_false : (b c : Bool) → b ≡ false → IsTrue (b && c) → ⊥
both_false true c none both = absurd (cc)
both_false false c none both = absurd (cc)

bare_fits : (cells : ℕ) (item : Item) → is_special_item item ≡ false → IsPlainUnit item.unit → FitsRow cells item
bare_fits cells item bare plain = record {
  row = λ mark.
      absurd (both_false (eqb item.unit cell_mark) (is_byte_one (paragraph_value item 0x2417))
      (ne_eqb item.unit cell_mark plain.cell) mark);
  outside = λ mark.
      absurd (both_false (is_some item.mark) (not (eqb item.unit cell_mark) && not (is_byte_one (paragraph_value item
      0x2416)))
      (bare_parts item bare).mark mark);
}

rows_by : (has : Bool) (text : List Item) → HasValidBareItems text → (i : ℕ) (item : Item) →
    slice_get text i ≡ Some item → is_special_item item ≡ has
    → HoldsAtItems (special_items text) (λ k x. FitsRow (open_cells (take k (special_items text))) x)
    → FitsRow (open_cells (take i text)) item
rows_by true text right i item there is rows =
    let place = place_of text right i item there is in
    let cells = cells_of_all (take i text) (All-take
    (λ (x : Item). is_special_item x ≡ false → IsPlainUnit x.unit) i text right.plain) in
    subst (λ (n : ℕ). FitsRow n item) (ap open_cells place.before ∙ cells)
    (rows (length (special_items (take i text))) item place.there)
rows_by false text right i item there is rows =
    bare_fits (open_cells (take i text)) item is (plain_at text right i item there is)

no_mark : {A : Type 0} (o : Option A) (P : A → Type 0) → is_some o ≡ false → ForSome o P
no_mark o P none x is = let some : is_some o ≡ true = ap is_some is in absurd (cc)

styles_by : (has : Bool) (sheet : Sheet) (text : List Item) → HasValidBareItems text → (i : ℕ) (item : Item) →
    slice_get text i ≡ Some item → is_special_item item ≡ has
    → HoldsAtItems (special_items text) (λ k x. HasParagraphStyle sheet x) → HasParagraphStyle sheet item
styles_by true sheet text right i item there is styles =
    styles (length (special_items (take i text))) item (place_of text right i item there is).there
styles_by false sheet text right i item there is styles =
    no_mark item.mark (λ mark. style_kind_at sheet mark.istd ≡ 1) (bare_parts item is).mark

short_by : (has : Bool) (text : List Item) → HasValidBareItems text → (i : ℕ) (item : Item) →
    slice_get text i ≡ Some item → is_special_item item ≡ has
    → HoldsAtItems (special_items text) (λ k x. HasShortProperties x) → HasShortProperties item
short_by true text right i item there is short =
    short (length (special_items (take i text))) item (place_of text right i item there is).there
short_by false text right i item there is short =
    let within = slice_get_within text i item there in
    let here : get_or text i item ≡ item = get_or_from_slice_get text i item item there in
    record {
      chp =
          subst (λ (x : Item). IsShortChp x.chp) here
          (All-get_or (λ (x : Item). IsShortChp x.chp) text i item within right.short);
      pap = no_mark item.mark (λ mark. IsShortPap mark.pap) (bare_parts item is).mark;
      sect = no_mark item.sect IsShortSect (bare_parts item is).sect;
    }

-- ---- a walk over a text

bare_right : (rule : ItemRule) (sheet : Sheet) (part : Where) (len place : ℕ) (item : Item) → is_special_item item ≡
    false →
    IsPlainUnit item.unit → IsShortChp item.chp → (place + 1 ≡ len → ⊥) → IsValidItem rule sheet part len place item
bare_right Placing sheet part len place item bare plain short inside = bare_placed part len place item bare plain inside
bare_right Styles sheet part len place item bare plain short inside =
    no_mark item.mark (λ mark. style_kind_at sheet mark.istd ≡ 1) (bare_parts item bare).mark
bare_right Properties sheet part len place item bare plain short inside = record {
  chp = short;
  pap = no_mark item.mark (λ mark. IsShortPap mark.pap) (bare_parts item bare).mark;
  sect = no_mark item.sect IsShortSect (bare_parts item bare).sect;
}

-- a walk goes past a bare item and carries what it carried
pub bare_passes : (sheet : Sheet) (part : Where) (len place : ℕ) (item : Item) (walk : TextWalk) →
    is_special_item item ≡ false → IsPlainUnit item.unit → IsShortChp item.chp → (place + 1 ≡ len → ⊥)
    → PassesItem sheet part len place item walk walk
bare_passes sheet part len place item walk bare plain short inside =
    let lacks = bare_parts item bare in
    let no_notes : ◌≡◌ {A = ℕ} (cond (is_some item.note) 1 0) 0 = ap (λ (b : Bool). cond b 1 0) lacks.note in
    let no_sections : ◌≡◌ {A = ℕ} (cond (is_some item.sect) 1 0) 0 = ap (λ (b : Bool). cond b 1 0) lacks.sect in
    record {
      right = λ rule. bare_right rule sheet part len place item bare plain short inside;
      row = bare_fits walk.cells item bare plain;
      cells = sym (same_cells walk.cells item plain);
      fields =
          ap (λ (b : Bool). cond b (after_field_character most_open item.unit walk.fields) (Some walk.fields))
          lacks.fld;
      notes = omega (arith, no_notes);
      sections = omega (arith, no_sections);
    }

-- ---- the end of a text

ends_by : (part : Where) (text : List Item) → HasValidBareItems text → EndsRight part (special_items text) →
    EndsRight part text
ends_by part text right kept = elim right.ends [
  | inl empty ↦ subst (EndsRight part) (ap special_items empty ∙ sym empty) kept
  | inr last ↦ inl last
]

-- a text with right bare items is right where that of its special items is
pub text_by_specials : (sheet : Sheet) (part : Where) (text : List Item) → HasValidBareItems text →
    IsValidText sheet part (special_items text) → IsValidText sheet part text
text_by_specials sheet part text right kept = record {
  ends = ends_by part text right kept.ends;
  placed = λ i item there. placed_by (is_special_item item) part text right i item there refl kept.placed;
  fields = subst (AreNestedFields most_open) (same_fields text) kept.fields;
  rows = λ i item there. rows_by (is_special_item item) text right i item there refl kept.rows;
  row_ends = sym (cells_of_all text right.plain) ∙ kept.row_ends;
  styles = λ i item there. styles_by (is_special_item item) sheet text right i item there refl kept.styles;
  short = λ i item there. short_by (is_special_item item) text right i item there refl kept.short;
}

-- ---- the document

no_note : (item : Item) → is_special_item item ≡ false → is_some item.note ≡ false
no_note item bare = (bare_parts item bare).note

no_sect : (item : Item) → is_special_item item ≡ false → is_some item.sect ≡ false
no_sect item bare = (bare_parts item bare).sect

-- the text of a list whose special items are at the same place of the other list
list_text : (texts : List (List Item)) (number : ℕ) (text : List Item) → slice_get texts number ≡ Some text →
    slice_get (map special_items texts) number ≡ Some (special_items text)
list_text texts number text there =
    slice_get-map special_items texts number
    ∙ ap (λ (o : Option (List Item)). option_map special_items o) there

list_right : (texts : List (List Item)) (number : ℕ) (text : List Item) → All HasValidBareItems texts →
    slice_get texts number ≡ Some text → HasValidBareItems text
list_right texts number text right there =
    subst HasValidBareItems (get_or_from_slice_get texts number text text there)
    (All-get_or HasValidBareItems texts number text (slice_get_within texts number text there) right)

text_there : (document kept : Document) → AreSpecialsOf document kept → (part : Where) (text : List Item) →
    text_of_place document part ≡ Some text →
    (text_of_place kept part ≡ Some (special_items text)) × HasValidBareItems text
text_there document kept are File text there = absurd (cc)
text_there document kept are Wd text there = absurd (cc)
text_there document kept are Table text there = absurd (cc)
text_there document kept are SheetPart text there = absurd (cc)
text_there document kept are Main text there =
    let is : document.main ≡ text = cc in
    (ap Some (are.main ∙ ap special_items is), subst HasValidBareItems is are.main_right)
text_there document kept are (Note number) text there = (
  ap (λ (texts : List (List Item)). slice_get texts number) are.notes ∙ list_text document.notes number text there,
  list_right document.notes number text are.notes_right there,
)
text_there document kept are (Head number) text there = (
  ap (λ (texts : List (List Item)). slice_get texts number) are.heads ∙ list_text document.heads number text there,
  list_right document.heads number text are.heads_right there,
)

-- a document with right bare items and right bookmarks is sound where that of its special items is
pub sound_by_specials : (document kept : Document) → AreSpecialsOf document kept →
    item_count document ≤ most_items → AreValidBookmarks (length document.main) document.bookmarks → IsSound kept →
    IsSound document
sound_by_specials document kept are few marks sound =
    let right = sound_is_valid kept sound in
    let sheets : kept.sheet ≡ document.sheet = are.sheet in
    let notes = same_count (λ (x : Item). is_some x.note) no_note document.main in
    let sections = same_count (λ (x : Item). is_some x.sect) no_sect document.main in
    right_is_sound document (record {
      texts = λ part text there.
          let found = text_there document kept are part text there in
          text_by_specials document.sheet part text found.1
          (subst (λ (sheet : Sheet). IsValidText sheet part (special_items text)) sheets
          (right.texts part (special_items text) found.0));
      notes =
          sym (length-map document.notes special_items) ∙ ap length (sym are.notes) ∙ right.notes
          ∙ ap note_count are.main ∙ notes;
      heads =
          sym (length-map document.heads special_items) ∙ ap length (sym are.heads) ∙ right.heads
          ∙ ap (λ (items : List Item). heads_of_sections (section_count items)) are.main
          ∙ ap heads_of_sections sections;
      few = few;
      bases = subst HasSoundBases sheets right.bases;
      short = subst (λ (sheet : Sheet). (istd : ℕ) → HasShortStyle sheet istd) sheets right.short;
      writable = subst IsWritable sheets right.writable;
      bookmarks = marks.formed;
      few_bookmarks = marks.few;
      names = marks.names;
    })
