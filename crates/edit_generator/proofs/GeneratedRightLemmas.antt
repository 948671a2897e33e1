-- What the generator comes to is well formed and breaks no rule.
use Rattle.std.proofs.Common.{◌≡◌, ◌∙◌, ◌⊎◌, inl, inr, refl, sym, ap, subst, ℕ, zero, suc, ◌+◌, ◌-◌, ◌<◌}
use Rattle.std.proofs.Common.{◌≤◌, ◌^◌, Bool, true, false, cond, List, [], ◌∷◌, ◌++◌, length, take, map}
use Rattle.std.proofs.Common.{replicate, Option, Some, None, arith, length-append}
use Rattle.std.specs.Prelude.{is_some, slice_get, IsSome, ◌==◌}
use Rattle.std.specs.List.{All, filter, sum_by}
use Rattle.std.specs.Option.{option_map, ForSome}
use Rattle.std.specs.FinMap.{empty}
use Rattle.std.proofs.Math.Seq.{take-length}
use Rattle.std.proofs.lemmas.Bool.{cases_lt, eqb-true}
use Rattle.std.proofs.lemmas.List.{get_or-replicate, length-map, length-replicate}
use Rattle.std.proofs.lemmas.List.Elements.{All-nil, All-head, All-tail, All-replicate}
use Rattle.std.proofs.lemmas.List.Sums.{sum_by-cons, sum_by-append, sum_by-le}
use Rattle.std.proofs.lemmas.List.Folds.{sum_by-replicate}
use Rattle.std.proofs.lemmas.Option.{same_Some, none-some, slice_get_within, slice_get-get_or, get_or_from_slice_get}
use Rattle.doc_bits.specs.declared.places.Where.{Where}
use Rattle.doc_bits.specs.declared.places.Where.TheVariants.{File, Wd, Table, Sheet, Main, Note, Head}
use Rattle.doc_bits.proofs.Public.{All_at, there_is, slice_get_push, slice_get_before, get-map}
use Rattle.doc_bits.specs.Number.{number_bytes}
use Rattle.text_codes.specs.Paragraph.{paragraph_mark, cell_mark}
use Rattle.prop_map.specs.Settings.{Properties}
use Rattle.prop_map.specs.Printing.{printed_list}
use Rattle.prop_map.specs.Formed.{IsPropertyMap, character_groups, paragraph_groups, section_groups}
use Rattle.prop_map.proofs.Public.{IsPropertyMap-empty}
use Rattle.style_sheet.specs.Chain.{style_kind_at}
use Rattle.document_bookmarks.specs.Names.{AreApart}
use Rattle.document_bookmarks.proofs.Public.{apart_nowhere}
use Rattle.doc_model.specs.declared.item.Item.{Item}
use Rattle.doc_model.specs.declared.document.Document.{Document}
use Rattle.doc_model.specs.Blank.{blank_sheet, blank_document}
use Rattle.doc_model.specs.Document.{IsFormedItem}
use Rattle.doc_model.specs.Formed.{IsFormed}
use Rattle.plain_doc.specs.Nesting.{AreNestedFields, field_characters, most_open}
use Rattle.plain_doc.specs.Rows.{is_row_mark, is_cell_mark, open_cells, cells_after, FitsRow}
use Rattle.plain_doc.specs.RulesOfItems.{HasMarkRight, IsPlacedRight, HasShortProperties, IsShortChp}
use Rattle.plain_doc.specs.RulesOfTexts.{text_of_place, last_unit, HasParagraphStyle}
use Rattle.plain_doc.specs.RulesOfSheet.{note_count, section_count}
use Rattle.plain_doc.specs.RightDocument.{IsValidText, IsValidDocument}
use Rattle.plain_doc.specs.Sound.{IsSound}
use Rattle.plain_doc.proofs.Public.{right_is_sound, open_cells-nil, open_cells_more, blank_bases, blank_short}
use Rattle.plain_doc.proofs.Public.{blank_writable, none_printed, one_printed}
use Rattle.doc_model.proofs.Public.{bold as bold_formed, blank_document_is_formed}
use Rattle.edit_generator.specs.GeneratedDocuments.{IsBoldOrNone, IsLetter, IsPlainMark, IsGeneratedItem}
use Rattle.edit_generator.specs.GeneratedDocuments.{IsGeneratedText}
use Rattle.edit_generator.proofs.GeneratedTextLemmas.{marked}
use Rattle.file_rules.proofs.Public.{none_formed}

-- ---- each item

no_some : {A : Type 0} (o : Option A) → o ≡ None → IsSome o → ⊥
no_some o none some = let wrong : false ≡ true = sym (ap is_some none) ∙ some in absurd (cc (wrong))

pub sect_empty : (item : Item) → IsGeneratedItem item → ForSome item.sect (λ sect. sect ≡ empty)
sect_empty item is sect here = elim is.kind [
  | inl letter ↦ absurd (none-some sect (sym letter.sect ∙ here))
  | inr end ↦ end.sect sect here
]

chp_formed : (chp : Properties) → IsBoldOrNone chp → IsPropertyMap character_groups chp
chp_formed chp (inl none) = subst (IsPropertyMap character_groups) (sym none) (IsPropertyMap-empty character_groups)
chp_formed chp (inr is) = subst (IsPropertyMap character_groups) (sym is) bold_formed

unit_formed : (item : Item) → IsLetter item ⊎ IsPlainMark item → item.unit < 2 ^ 16
unit_formed item (inl letter) = let high = letter.unit.high in omega (arith, high)
unit_formed item (inr end) = let is = end.unit in omega (arith, is)

pub item_formed : (item : Item) → IsGeneratedItem item → IsFormedItem item
item_formed item is = record {
  maps = record {
    chp = chp_formed item.chp is.chp;
    pap = λ mark here. subst (IsPropertyMap paragraph_groups) (sym (marked item mark is here).pap)
        (IsPropertyMap-empty paragraph_groups);
    sect = λ sect here. subst (IsPropertyMap section_groups) (sym (sect_empty item is sect here))
        (IsPropertyMap-empty section_groups);
  };
  unit = unit_formed item is.kind;
  style = λ mark here. let small = (marked item mark is here).style in omega (arith, small);
  field = λ byte here. absurd (none-some byte (sym is.fld ∙ here));
}

chp_short : (chp : Properties) → IsBoldOrNone chp → IsShortChp chp
unfolding number_bytes
chp_short chp (inl none) = let len : length (printed_list chp) ≡ 0 = ap (λ map. length (printed_list map)) none ∙ ap
    length none_printed in omega (arith, len)
chp_short chp (inr is) =
    let len : length (printed_list chp) ≡ 3 = ap (λ map. length (printed_list map)) is ∙ ap length
    (one_printed 0x0835 1) in
    omega (arith, len)

empty_short : (map : Properties) → map ≡ empty → length (printed_list map) ≡ 0
empty_short map is = ap (λ map. length (printed_list map)) is ∙ ap length none_printed

item_short : (item : Item) → IsGeneratedItem item → HasShortProperties item
item_short item is = record {
  chp = chp_short item.chp is.chp;
  pap = λ mark here. let len = empty_short mark.pap (marked item mark is here).pap in omega (arith, len);
  sect = λ sect here. let len = empty_short sect (sect_empty item is sect here) in omega (arith, len);
}

style_kind : (istd : ℕ) → istd ≤ 1 → style_kind_at blank_sheet istd ≡ 1
style_kind zero small = refl
style_kind (suc zero) small = refl
style_kind (suc (suc istd)) small = absurd (omega (arith, small))

item_style : (item : Item) → IsGeneratedItem item → HasParagraphStyle blank_sheet item
item_style item is mark here = style_kind mark.istd (marked item mark is here).style

letter_mark : (item : Item) → IsLetter item → HasMarkRight item
letter_mark item letter = (
  λ some. absurd (no_some item.mark letter.mark some),
  λ ends.
      let low = letter.unit.low in
      elim ends [
        | inl mark ↦ absurd (omega (arith, mark, low))
        | inr (inl cell) ↦ absurd (omega (arith, cell, low))
        | inr (inr sect) ↦ absurd (no_some item.sect letter.sect sect)
      ],
)

item_mark : (item : Item) → IsLetter item ⊎ IsPlainMark item → HasMarkRight item
item_mark item (inl letter) = letter_mark item letter
item_mark item (inr end) = (λ some. inl end.unit, λ ends. ap is_some end.has)

no_cell : (item : Item) → IsLetter item ⊎ IsPlainMark item → item.unit ≡ cell_mark → ⊥
no_cell item (inl letter) is = let low = letter.unit.low in absurd (omega (arith, is, low))
no_cell item (inr end) is = let unit = end.unit in absurd (omega (arith, is, unit))

not_equal : (one other : ℕ) (same : Bool) → (one == other) ≡ same → (one ≡ other → ⊥) → same ≡ false
not_equal one other true is never = absurd (never (eqb-true one other is))
not_equal one other false is never = refl

not_cell : (item : Item) → IsGeneratedItem item → (item.unit == cell_mark) ≡ false
not_cell item is = not_equal item.unit cell_mark (item.unit == cell_mark) refl (no_cell item is.kind)

no_row_mark : (item : Item) → IsGeneratedItem item → is_row_mark item ≡ false
no_row_mark item is = rw (not_cell item is) refl

no_cell_mark : (item : Item) → IsGeneratedItem item → is_cell_mark item ≡ false
no_cell_mark item is = rw (not_cell item is) refl

-- ---- the text

module _ (main : List Item) (text : IsGeneratedText main) where
  pub size : length main ≡ text.front + 1
  size =
      let all = length-map main (λ (item : Item). item.sect) in
      let is = ap length text.sections in
      let both = length-append (replicate {A = Option Properties} text.front None) (Some empty ∷ []) in
      let front = length-replicate {A = Option Properties} text.front None in
      omega (arith, all, is, both, front)

  section_at : (place : ℕ) (item : Item) → slice_get main place ≡ Some item →
      slice_get (replicate text.front None ++ Some empty ∷ []) place ≡ Some item.sect
  section_at place item here =
      ap (λ xs. slice_get xs place) (sym text.sections) ∙ get-map (λ (item : Item). item.sect) main place item here

  none_at : (place : ℕ) (item : Item) → slice_get main place ≡ Some item → place < text.front → item.sect ≡ None
  none_at place item here low =
      let nones : List (Option Properties) = replicate text.front None in
      let long = length-replicate {A = Option Properties} text.front None in
      let below : place < length nones = omega (arith, low, long) in
      sym (same_Some None item.sect
      (sym (slice_get_before nones (Some empty ∷ []) place below
      ∙ (slice_get-get_or nones place None below ∙ ap Some (get_or-replicate text.front place None None low)))
      ∙ section_at place item here))

  last_at : (place : ℕ) (item : Item) → slice_get main place ≡ Some item → place ≡ text.front → item.sect ≡ Some empty
  last_at place item here is =
      let nones : List (Option Properties) = replicate text.front None in
      let at : length nones ≡ place = length-replicate {A = Option Properties} text.front None ∙ sym is in
      sym (same_Some (Some empty) item.sect
      (sym (ap (λ k. slice_get (nones ++ Some empty ∷ []) k) (sym at) ∙ slice_get_push nones (Some empty))
      ∙ section_at place item here))

  there : (place : ℕ) (item : Item) → slice_get main place ≡ Some item → IsGeneratedItem item
  there place item here = All_at IsGeneratedItem main place item text.each here

  in_front : (place : ℕ) (item : Item) → slice_get main place ≡ Some item → IsSome item.sect → place + 1 ≡ length main
  in_front place item here some =
      let all = size in
      let within = slice_get_within main place item here in
      elim (cases_lt place text.front) [
        | inl low ↦ absurd (no_some item.sect (none_at place item here low) some)
        | inr high ↦ omega (arith, all, within, high)
      ]

  placed : (place : ℕ) (item : Item) → slice_get main place ≡ Some item → IsPlacedRight Main (length main) place item
  placed place item here =
      let is = there place item here in
      let all = size in
      record {
        mark = item_mark item is.kind;
        section = record {
          alone = λ some. (refl, inl (in_front place item here some));
          last = λ part end. ap is_some (last_at place item here (omega (arith, end, all)));
        };
        field = λ some. absurd (no_some item.fld is.fld some);
        note = λ some. absurd (no_some item.note is.note some);
      }

  ended : (item : Item) → item.sect ≡ Some empty → IsLetter item ⊎ IsPlainMark item → item.unit ≡ paragraph_mark
  ended item sect (inl letter) = absurd (none-some empty (sym letter.sect ∙ sect))
  ended item sect (inr end) = end.unit

  ends : last_unit main ≡ Some paragraph_mark
  ends =
      let all = size in
      let last = there_is main (length main - 1) (omega (arith, all)) in
      let item = last.0 in
      let sect = last_at (length main - 1) item last.1 (omega (arith, all)) in
      ap (option_map (λ (item : Item). item.unit)) last.1
      ∙ ap Some (ended item sect (there (length main - 1) item last.1).kind)

  -- no row is open
  cells_at : (i : ℕ) → i ≤ length main → open_cells (take i main) ≡ 0
  cells_at zero within = open_cells-nil
  cells_at (suc i) within =
      let found = there_is main i (omega (arith, within)) in
      let item = found.0 in
      let is = there i item found.1 in
      let count : suc i ≡ i + 1 = omega arith in
      let more = open_cells_more main i item (omega (arith, within))
      (sym (get_or_from_slice_get main i item item found.1)) in
      let same : cells_after (open_cells (take i main)) item ≡ open_cells (take i main) = rw
      (no_row_mark item is, no_cell_mark item is) refl in
      ap (λ n. open_cells (take n main)) count ∙ (more ∙ (same ∙ cells_at i (omega (arith, within))))

  fits : (i : ℕ) (item : Item) → slice_get main i ≡ Some item → FitsRow (open_cells (take i main)) item
  fits i item here =
      let within = slice_get_within main i item here in
      record {
        row = λ is. let wrong : false ≡ true = sym (no_row_mark item (there i item here)) ∙ is in absurd (cc (wrong));
        outside = λ is. cells_at i (omega (arith, within));
      }

-- no item has a field byte
no_fields : (items : List Item) → All IsGeneratedItem items → field_characters items ≡ []
no_fields [] each = refl
no_fields (item ∷ items) each =
    let first : is_some item.fld ≡ false = ap is_some (All-head IsGeneratedItem item items each).fld in
    ap (λ b. map (λ (item : Item). item.unit)
    (cond b (item ∷ filter (λ (item : Item). is_some item.fld) items)
    (filter (λ (item : Item). is_some item.fld) items))) first
    ∙ no_fields items (All-tail IsGeneratedItem item items each)

nothing_nests : AreNestedFields most_open []
unfolding AreNestedFields
nothing_nests = record { fields = []; each = All-nil _; joined = refl }

-- the main text
main_right : (main : List Item) → IsGeneratedText main → IsValidText blank_sheet Main main
main_right main text = record {
  ends = inl (ends main text);
  placed = placed main text;
  fields = subst (AreNestedFields most_open) (sym (no_fields main text.each)) nothing_nests;
  rows = fits main text;
  row_ends = ap open_cells (sym (take-length main)) ∙ cells_at main text (length main) (omega arith);
  styles = λ i item here. item_style item (there main text i item here);
  short = λ i item here. item_short item (there main text i item here);
}

nowhere : {A : Type 0} (k : ℕ) (x : A) → slice_get [] k ≡ Some x → ⊥
nowhere k x here = let within = slice_get_within [] k x here in absurd (omega (arith, within))

-- an empty header text
head_right : (number : ℕ) → IsValidText blank_sheet (Head number) []
head_right number = record {
  ends = inr ((number, refl), refl);
  placed = λ i item here. absurd (nowhere i item here);
  fields = nothing_nests;
  rows = λ i item here. absurd (nowhere i item here);
  row_ends = open_cells-nil;
  styles = λ i item here. absurd (nowhere i item here);
  short = λ i item here. absurd (nowhere i item here);
}

abbrev pub generated_with : List Item → Document
generated_with main = record blank_document { main = main }

head_empty : (number : ℕ) (text : List Item) → slice_get (replicate 12 []) number ≡ Some text → text ≡ []
head_empty number text here =
    All_at (λ (text : List Item). text ≡ []) (replicate 12 []) number text
    (All-replicate (λ (text : List Item). text ≡ []) 12 [] refl) here

texts_right : (main : List Item) → IsGeneratedText main → (part : Where) (text : List Item) →
    text_of_place (generated_with main) part ≡ Some text → IsValidText blank_sheet part text
texts_right main is File text here = absurd (none-some text here)
texts_right main is Wd text here = absurd (none-some text here)
texts_right main is Table text here = absurd (none-some text here)
texts_right main is Sheet text here = absurd (none-some text here)
texts_right main is Main text here = subst (IsValidText blank_sheet Main) (same_Some main text here)
    (main_right main is)
texts_right main is (Note number) text here = absurd (nowhere number text here)
texts_right main is (Head number) text here =
    subst (IsValidText blank_sheet (Head number)) (sym (head_empty number text here)) (head_right number)

-- ---- the counts

abbrev one_if : Bool → ℕ
one_if b = cond b 1 0

no_note : (item : Item) → IsGeneratedItem item → one_if (is_some item.note) ≤ 0
no_note item is =
    let none : one_if (is_some item.note) ≡ 0 = ap (λ o. one_if (is_some o)) is.note in omega (arith, none)

no_notes : (main : List Item) → IsGeneratedText main → note_count main ≡ 0
no_notes main text =
    let few = sum_by-le (λ (item : Item). one_if (is_some item.note)) 0 main
    (λ k d within. no_note _ (text.each k d within)) in
    omega (arith, few)

-- a sum over what items have
sum_keys : (f : Option Properties → ℕ) (main : List Item) →
    sum_by (λ (item : Item). f item.sect) main ≡ sum_by f (map (λ (item : Item). item.sect) main)
sum_keys f [] = refl
sum_keys f (item ∷ items) =
    sum_by-cons (λ (item : Item). f item.sect) item items
    ∙ (ap (λ n. f item.sect + n) (sum_keys f items)
    ∙ sym (sum_by-cons f item.sect (map (λ (item : Item). item.sect) items)))

pub one_section : (main : List Item) → IsGeneratedText main → section_count main ≡ 1
one_section main text =
    let f : Option Properties → ℕ = λ o. one_if (is_some o) in
    let nones : List (Option Properties) = replicate text.front None in
    let keys = sum_keys f main in
    let is = ap (sum_by f) text.sections in
    let both = sum_by-append f nones (Some empty ∷ []) in
    let front = sum_by-replicate f text.front None in
    omega (arith, keys, is, both, front)

-- ---- no bookmarks

none_apart : AreApart []
none_apart name = omega arith

-- ---- documents

pub generated_right : (main : List Item) → IsGeneratedText main → length main ≤ 400000 →
    IsValidDocument (generated_with main)
generated_right main text few =
    let notes = no_notes main text in
    let sections = one_section main text in
    let heads = sum_by-replicate {X = List Item} length 12 [] in
    let twelve = length-replicate {A = List Item} 12 [] in
    record {
      texts = texts_right main text;
      notes = sym notes;
      heads = omega (arith, sections, twelve);
      few = omega (arith, few, heads);
      bases = blank_bases;
      short = blank_short;
      writable = blank_writable;
      bookmarks = none_formed (length main);
      few_bookmarks = omega arith;
      names = apart_nowhere [] none_apart;
    }

pub generated_sound : (main : List Item) → IsGeneratedText main → length main ≤ 400000 → IsSound (generated_with main)
generated_sound main text few = right_is_sound (generated_with main) (generated_right main text few)

pub generated_formed : (main : List Item) → IsGeneratedText main → length main ≤ 400000 → IsFormed (generated_with main)
generated_formed main text few =
    let blank = blank_document_is_formed in
    record {
      main = record { few = omega (arith, few); each = λ k d within. item_formed _ (text.each k d within) };
      notes = blank.notes;
      heads = blank.heads;
      sheet = blank.sheet;
      carried = blank.carried;
      bookmarks = blank.bookmarks;
    }
