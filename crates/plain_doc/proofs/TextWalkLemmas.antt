-- Going once through the items of a text: where each is passed and nothing is open at the end, no rule is broken.
use Rattle.std.proofs.Common.{◌≡◌, inl, inr, ℕ, ◌+◌, ◌<◌, ◌≤◌, Bool, true, false, cond, List, [], ◌∷◌, length, take}
use Rattle.std.proofs.Common.{get_or, Some, refl, sym, ◌∙◌, ap, subst, below_more, arith}
use Rattle.std.specs.Prelude.{is_some, slice_get, option_map, ◌-◌}
use Rattle.std.specs.List.{count_by}
use Rattle.std.proofs.lemmas.List.Sums.{sum_by_more}
use Rattle.std.proofs.lemmas.Option.{slice_get_read}
use Rattle.doc_bits.specs.declared.places.Where.{Where}
use Rattle.doc_bits.specs.declared.places.Where.TheVariants.{Main}
use Rattle.doc_bits.specs.Rules.{Nowhere}
use Rattle.text_codes.specs.Paragraph.{paragraph_mark}
use Rattle.style_sheet.specs.Sheet.{Sheet}
use Rattle.doc_model.specs.declared.item.Item.{Item}
use Rattle.doc_model.specs.declared.document.Document.{Document}
use Rattle.plain_doc.specs.declared.rules_texts.ItemRule.TheVariants.{Placing, Styles, Properties}
use Rattle.plain_doc.specs.declared.rules_texts.TextRule.{TextRule}
use Rattle.plain_doc.specs.declared.rules_texts.TextRule.TheVariants.{End, Fields, Rows, Each}
use Rattle.plain_doc.specs.declared.text_walk.TextWalk.{TextWalk}
use Rattle.plain_doc.specs.Nesting.{most_open, field_characters}
use Rattle.plain_doc.specs.OpenFields.{Open, after_field_character, after_item}
use Rattle.plain_doc.specs.Rows.{FitsRow, cells_after, is_row_mark, is_cell_mark}
use Rattle.plain_doc.specs.RulesOfItems.{IsWrongItem}
use Rattle.plain_doc.specs.RulesOfSheet.{note_count, section_count}
use Rattle.plain_doc.specs.RulesOfTexts.{EndsRight, InTexts, last_unit}
use Rattle.plain_doc.specs.TextRules.{IsValidItem, BreaksText}
use Rattle.plain_doc.specs.TextWalk.{PassesItem, HasPassed, KeepsTextRules, AreTextsRight}
use Rattle.plain_doc.proofs.WalkLemmas.{after_all}
use Rattle.plain_doc.proofs.FieldLemmas.{open_after, open_still, nothing_open}
use Rattle.plain_doc.proofs.RowLemmas.{RightIn, open_cells-nil, open_cells_more, no_row_open}
use Rattle.plain_doc.proofs.ItemLemmas.{right_there, wrong_within}
use Rattle.document_bookmarks.proofs.Public.{one_at_most}

open_by : (has : Bool) (text : List Item) (i : ℕ) (item : Item) (fields next : Open) → i < length text →
    item ≡ get_or text i item → is_some item.fld ≡ has →
    cond has (after_field_character most_open item.unit fields) (Some fields) ≡ Some next →
    after_all most_open (field_characters (take i text)) (Some []) ≡ Some fields →
    after_all most_open (field_characters (take (i + 1) text)) (Some []) ≡ Some next
open_by true text i item fields next h is has passes before = open_after text i item fields h is has before ∙ passes
open_by false text i item fields next h is has passes before = open_still text i item fields h is has before ∙ passes

-- what is open after an item more
open_more : (text : List Item) (i : ℕ) (item : Item) (fields next : Open) → i < length text →
    item ≡ get_or text i item → after_item most_open item fields ≡ Some next →
    after_all most_open (field_characters (take i text)) (Some []) ≡ Some fields →
    after_all most_open (field_characters (take (i + 1) text)) (Some []) ≡ Some next
open_more text i item fields next h is passes before =
    open_by (is_some item.fld) text i item fields next h is refl passes before

few_of : (row cell : Bool) (n : ℕ) → cond row 0 (cond cell (n + 1) n) ≤ n + 1
few_of true cell n = omega arith
few_of false true n = omega arith
few_of false false n = omega arith

few_cells : (cells : ℕ) (item : Item) → cells_after cells item ≤ cells + 1
few_cells cells item = few_of (is_row_mark item) (is_cell_mark item) cells

-- how many of the items so far are such
count_more : (such : Item → Bool) (text : List Item) (i : ℕ) (item : Item) → i < length text →
    item ≡ get_or text i item →
    count_by such (take (i + 1) text) ≡ count_by such (take i text) + count_by such (item ∷ [])
count_more such text i item h is =
    let one : Item → ℕ = λ x. cond (such x) 1 0 in
    let more : count_by such (take (i + 1) text) ≡ count_by such (take i text) + one item =
    sum_by_more one text i item h ∙ ap (λ x. count_by such (take i text) + one x) (sym is) in
    omega arith

-- of one item there is at most one
at_most_one : (such : Item → Bool) (item : Item) → count_by such (item ∷ []) ≤ 1
at_most_one such item = let few = one_at_most (such item) in omega arith

pub none_passed : (sheet : Sheet) (part : Where) (text : List Item) →
    HasPassed sheet part text 0 (record { fields = []; cells = 0; notes = 0; sections = 0 })
none_passed sheet part text = record {
  right = λ rule k h. absurd (omega (arith, h));
  rows = λ k h. absurd (omega (arith, h));
  cells = sym open_cells-nil;
  fields = refl;
  notes = refl;
  sections = refl;
  few = (omega arith, (omega arith, omega arith));
}

-- one item more
pub one_passed : (sheet : Sheet) (part : Where) (text : List Item) (i : ℕ) (item : Item) (before after : TextWalk) →
    i < length text → item ≡ get_or text i item → HasPassed sheet part text i before →
    PassesItem sheet part (length text) i item before after → HasPassed sheet part text (i + 1) after
one_passed sheet part text i item before after h is passed passes = record {
  right =
      λ rule. below_more (λ k. IsWrongItem (IsValidItem rule sheet part (length text)) text k → ⊥) i
      (passed.right rule) (right_there (IsValidItem rule sheet part (length text)) text i item is
      (passes.right rule));
  rows =
      below_more (λ k. IsWrongItem (RightIn text) text k → ⊥) i passed.rows
      (right_there (RightIn text) text i item is (subst (λ n. FitsRow n item) passed.cells passes.row));
  cells = passes.cells ∙ ap (λ n. cells_after n item) passed.cells ∙ sym (open_cells_more text i item h is);
  fields = open_more text i item before.fields after.fields h is passes.fields passed.fields;
  notes =
      passes.notes ∙ ap (λ n. n + note_count (item ∷ [])) passed.notes
      ∙ sym (count_more (λ item. is_some item.note) text i item h is);
  sections =
      passes.sections ∙ ap (λ n. n + section_count (item ∷ [])) passed.sections
      ∙ sym (count_more (λ item. is_some item.sect) text i item h is);
  few = (
    omega (arith, passes.cells, passed.few.0, few_cells before.cells item),
    (
      omega (arith, passes.notes, passed.few.1.0, at_most_one (λ item. is_some item.note) item),
      omega (arith, passes.sections, passed.few.1.1, at_most_one (λ item. is_some item.sect) item),
    ),
  );
}

-- the last item of a text that ends right is a paragraph mark
pub last_is_mark : (text : List Item) (i : ℕ) (item : Item) → i < length text → item ≡ get_or text i item →
    EndsRight Main text → i + 1 ≡ length text → item.unit ≡ paragraph_mark
last_is_mark text i item h is ends last =
    let place : i ≡ length text - 1 = omega arith in
    let here : slice_get text i ≡ Some item = slice_get_read text (length text) i item refl h is in
    let unit : last_unit text ≡ Some item.unit =
    ap (λ n. option_map (λ item. item.unit) (slice_get text n)) (sym place)
    ∙ ap (λ o. option_map (λ item. item.unit) o) here in
    elim ends [
      | inl mark ↦ (let whole : Some item.unit ≡ Some paragraph_mark = sym unit ∙ mark in cc)
      | inr none ↦ absurd (let empty : length text ≡ 0 = ap length none.1 in omega arith)
    ]

-- all items are passed, and nothing is open
pub all_passed : (sheet : Sheet) (part : Where) (text : List Item) (walk : TextWalk) → EndsRight part text →
    HasPassed sheet part text (length text) walk → walk.cells ≡ 0 → walk.fields ≡ [] → KeepsTextRules sheet part text
all_passed sheet part text walk ends passed no_cells no_fields End = λ p wrong. wrong.1 ends
all_passed sheet part text walk ends passed no_cells no_fields Fields =
    nothing_open text (passed.fields ∙ ap Some no_fields)
all_passed sheet part text walk ends passed no_cells no_fields Rows =
    no_row_open text passed.rows (sym passed.cells ∙ no_cells)
all_passed sheet part text walk ends passed no_cells no_fields (Each rule) =
    λ p wrong. passed.right rule p (wrong_within (IsValidItem rule sheet part (length text)) text p wrong) wrong

-- texts that break none of the rules
pub texts_right : (document : Document) →
    ((rule : TextRule) → Nowhere (InTexts document (BreaksText rule document.sheet))) → AreTextsRight document
texts_right document right = record {
  rules = (right End, (right (Each Placing), (right Fields, (right Rows, right (Each Styles)))));
  properties = right (Each Properties);
}
