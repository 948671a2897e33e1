-- What soundness says place by place, and back.
use Rattle.std.specs.Prelude.{is_some}
use Rattle.std.proofs.Common.{◌≡◌, inl, inr, ℕ, ◌+◌, ◌-◌, ◌<◌, ◌≤◌, List, [], length, take, Some, refl, ◌∙◌, ap, arith}
use Rattle.std.proofs.Math.Seq.{take-length}
use Rattle.doc_bits.specs.declared.places.Where.{Where}
use Rattle.doc_bits.specs.declared.places.Where.TheVariants.{Sheet as SheetPart, Main}
use Rattle.doc_bits.specs.Rules.{Nowhere, Hold}
use Rattle.text_codes.specs.Paragraph.{paragraph_mark, cell_mark, section_mark}
use Rattle.style_sheet.specs.Sheet.{Sheet, style_at}
use Rattle.style_sheet.specs.Chain.{style_kind_at, BreaksBases}
use Rattle.style_sheet.specs.Written.{written_slot}
use Rattle.style_sheet.specs.declared.styles.Kind.{Kind}
use Rattle.style_sheet.specs.declared.styles.Kind.TheVariants.{Para, Char, Other}
use Rattle.doc_model.specs.declared.item.Item.{Item}
use Rattle.doc_model.specs.declared.document.Document.{Document}
use Rattle.plain_doc.specs.Nesting.{field_characters, most_open, BreaksNesting}
use Rattle.plain_doc.specs.Rows.{FitsRow, open_cells, BreaksRows, paragraph_value, is_row_mark, is_mark_outside}
use Rattle.plain_doc.specs.RulesOfItems.{IsWrongItem, IsPlacedRight, HasMarkRight, HasSectionRight, HasShortProperties}
use Rattle.plain_doc.specs.RulesOfItems.{IsShortPap, IsShortSect, printed_length}
use Rattle.plain_doc.specs.RulesOfTexts.{InTexts, text_of_place, EndsRight, HasWrongEnd, HasParagraphStyle, last_unit}
use Rattle.plain_doc.specs.RulesOfSheet.{HasShortKind, note_count, head_count, item_count, most_items}
use Rattle.doc_model.specs.Marks.{most_bookmarks, HasWrongBookmarks}
use Rattle.plain_doc.specs.Sound.{IsSound, document_rules}
use Rattle.plain_doc.specs.RightDocument.{HoldsAtItems, IsValidText, IsValidDocument}
use Rattle.style_sheet.proofs.Public.{unbroken_bases}
use Rattle.plain_doc.proofs.WalkLemmas.{after_all}
use Rattle.plain_doc.proofs.NestingLemmas.{nest_passes}
use Rattle.plain_doc.proofs.FieldLemmas.{nothing_open}
use Rattle.plain_doc.proofs.DecisionLemmas.{IsDecided, settled, implied, at_most_or, equal_or, true_or, both_or}
use Rattle.plain_doc.proofs.DecisionLemmas.{either_or, implies_or, some_or, empty_or, main_or, head_or, cells_or}
use Rattle.plain_doc.proofs.DecisionLemmas.{nest_or, ForSome_settled}

-- ---- what an item has

mark_settled : (item : Item) → ¬ ¬ (HasMarkRight item) → HasMarkRight item
mark_settled item wrong =
    let ends =
    either_or (equal_or item.unit paragraph_mark) (either_or (equal_or item.unit cell_mark)
    (true_or (is_some item.sect))) in (
      settled (implies_or (true_or (is_some item.mark)) ends) (implied wrong (λ right. right.0)),
      settled (implies_or ends (true_or (is_some item.mark))) (implied wrong (λ right. right.1)),
    )

section_settled : (part : Where) (len place : ℕ) (item : Item) → ¬ ¬ (HasSectionRight part len place item) →
    HasSectionRight part len place item
section_settled part len place item wrong = record {
  alone =
      settled (implies_or (true_or (is_some item.sect))
      (both_or (main_or part) (either_or (equal_or (place + 1) len) (equal_or item.unit section_mark))))
      (implied wrong (λ right. right.alone));
  last =
      settled (implies_or (main_or part) (implies_or (equal_or (place + 1) len) (true_or (is_some item.sect))))
      (implied wrong (λ right. right.last));
}

placed_settled : (part : Where) (len place : ℕ) (item : Item) → ¬ ¬ (IsPlacedRight part len place item) →
    IsPlacedRight part len place item
placed_settled part len place item wrong = record {
  mark = mark_settled item (implied wrong (λ right. right.mark));
  section = section_settled part len place item (implied wrong (λ right. right.section));
  field =
      settled (implies_or (true_or (is_some item.fld))
      (both_or (at_most_or 0x13 item.unit) (at_most_or item.unit 0x15)))
      (implied wrong (λ right. right.field));
  note = settled (implies_or (true_or (is_some item.note)) (main_or part)) (implied wrong (λ right. right.note));
}

row_settled : (cells : ℕ) (item : Item) → ¬ ¬ (FitsRow cells item) → FitsRow cells item
row_settled cells item wrong = record {
  row =
      settled (implies_or (true_or (is_row_mark item)) (cells_or (paragraph_value item 0xD608) cells))
      (implied wrong (λ right. right.row));
  outside =
      settled (implies_or (true_or (is_mark_outside item)) (equal_or cells 0))
      (implied wrong (λ right. right.outside));
}

short_settled : (item : Item) → ¬ ¬ (HasShortProperties item) → HasShortProperties item
short_settled item wrong = record {
  chp = settled (at_most_or (printed_length item.chp) 255) (implied wrong (λ right. right.chp));
  pap =
      ForSome_settled (λ mark. IsShortPap mark.pap) item.mark (λ mark. at_most_or (printed_length mark.pap) 480)
      (implied wrong (λ right. right.pap));
  sect =
      ForSome_settled IsShortSect item.sect (λ sect. at_most_or (printed_length sect) 500)
      (implied wrong (λ right. right.sect));
}

style_settled : (sheet : Sheet) (item : Item) → ¬ ¬ (HasParagraphStyle sheet item) → HasParagraphStyle sheet item
style_settled sheet item =
    ForSome_settled (λ mark. style_kind_at sheet mark.istd ≡ 1) item.mark (λ mark. equal_or (style_kind_at sheet
    mark.istd) 1)

kind_or : (kind : Kind) → IsDecided (HasShortKind kind)
kind_or (Para pap chp) = both_or (at_most_or (printed_length pap) 480) (at_most_or (printed_length chp) 255)
kind_or (Char chp) = at_most_or (printed_length chp) 255
kind_or (Other stk upxes) = inl tt

ends_or : (part : Where) (text : List Item) → IsDecided (EndsRight part text)
ends_or part text = either_or (some_or (last_unit text) paragraph_mark) (both_or (head_or part) (empty_or text))

-- ---- a rule on each item of a text

-- no item is wrong, so each is right
items_right : (such : ℕ → Item → Type 0) (text : List Item) →
    ((i : ℕ) (item : Item) → ¬ ¬ (such i item) → such i item) →
    ((i : ℕ) → ¬ (IsWrongItem such text i)) → HoldsAtItems text such
items_right such text settles none i item here =
    settles i item (λ wrong. none i (record { item = item; there = here; wrong = wrong }))

-- each is right, so none is wrong
pub none_wrong : (such : ℕ → Item → Type 0) (text : List Item) → HoldsAtItems text such → (i : ℕ) →
    ¬ (IsWrongItem such text i)
none_wrong such text right i wrong = wrong.wrong (right i wrong.item wrong.there)

-- a rule that no text of the document breaks is broken in none of them
in_text : (document : Document) (breaks : Where → List Item → ℕ → Type 0) → Nowhere (InTexts document breaks) →
    (part : Where) (text : List Item) → text_of_place document part ≡ Some text → (i : ℕ) → ¬ (breaks part text i)
in_text document breaks none part text there i broken =
    none (part, i) (record { text = text; there = there; broken = broken })

-- ---- from soundness

text_right : (document : Document) → IsSound document → (part : Where) (text : List Item) →
    text_of_place document part ≡ Some text → IsValidText document.sheet part text
text_right document sound part text there = record {
  ends =
      settled (ends_or part text)
      (λ wrong. in_text document HasWrongEnd sound.rules.0.0 part text there (length text - 1) (refl, wrong));
  placed =
      items_right (IsPlacedRight part (length text)) text (placed_settled part (length text))
      (in_text document (λ part text. IsWrongItem (IsPlacedRight part (length text)) text)
      sound.rules.0.1.0 part text there);
  fields =
      settled (nest_or (field_characters text))
      (λ wrong. in_text document (λ part text. BreaksNesting text) sound.rules.0.1.1.0 part text there (length text)
      (inr (refl, wrong)));
  rows =
      items_right (λ i item. FitsRow (open_cells (take i text)) item) text
      (λ i item. row_settled (open_cells (take i text)) item)
      (λ i wrong. in_text document (λ part text. BreaksRows text) sound.rules.0.1.1.1.0 part text there i (inl wrong));
  row_ends =
      settled (equal_or (open_cells text) 0)
      (λ wrong. in_text document (λ part text. BreaksRows text) sound.rules.0.1.1.1.0 part text there (length text)
      (inr (refl, wrong)));
  styles =
      items_right (λ i item. HasParagraphStyle document.sheet item) text (λ i item. style_settled document.sheet item)
      (in_text document (λ part text. IsWrongItem (λ place item. HasParagraphStyle document.sheet item) text)
      sound.rules.0.1.1.1.1 part text there);
  short =
      items_right (λ i item. HasShortProperties item) text (λ i item. short_settled item)
      (in_text document (λ part text. IsWrongItem (λ i item. HasShortProperties item) text)
      (λ place wrong. sound.rules.1.1.1.0 place (inr wrong)) part text there);
}

bookmarks_few : (document : Document) → IsSound document → length document.bookmarks ≤ most_bookmarks
bookmarks_few document sound =
    settled (at_most_or (length document.bookmarks) most_bookmarks)
    (λ wrong. sound.rules.1.1.0.1.1.1 (Main, 0) (
      refl,
      inl (refl, let more : most_bookmarks < length document.bookmarks = omega (arith, wrong) in more),
    ))

pub sound_is_valid : (document : Document) → IsSound document → IsValidDocument document
sound_is_valid document sound = record {
  texts = text_right document sound;
  notes =
      settled (equal_or (length document.notes) (note_count document.main))
      (λ wrong. sound.rules.1.1.0.0 (Main, length document.notes) (refl, wrong));
  heads =
      settled (equal_or (length document.heads) (head_count document.main))
      (λ wrong. sound.rules.1.1.0.1.0 (Main, length document.heads) (refl, wrong));
  few =
      settled (at_most_or (item_count document) most_items)
      (λ wrong. sound.rules.1.1.0.1.1.0 (Main, most_items) (
        refl,
        let more : most_items < item_count document = omega (arith, wrong) in more,
      ));
  bases = unbroken_bases document.sheet (λ istd broken. sound.rules.1.0 (SheetPart, istd) (refl, broken));
  short = λ istd style is.
      settled (kind_or style.kind) (λ wrong. sound.rules.1.1.1.0 (SheetPart, istd)
      (inl (refl, λ short. wrong (short style is))));
  writable = λ istd.
      settled (at_most_or (length (written_slot istd (style_at document.sheet istd))) 32767)
      (λ wrong. sound.rules.1.1.1.1 (SheetPart, istd) (refl, wrong));
  bookmarks = sound.bookmarks;
  few_bookmarks = bookmarks_few document sound;
  names = λ place same.
      sound.rules.1.1.0.1.1.1 (Main, place) (refl, inr (bookmarks_few document sound, same));
}

-- ---- to soundness

-- what each text says holds at each place of a rule on texts
nowhere_in_texts : (document : Document) (breaks : Where → List Item → ℕ → Type 0) → IsValidDocument document →
    ((part : Where) (text : List Item) → IsValidText document.sheet part text → (i : ℕ) → ¬ (breaks part text i)) →
    Nowhere (InTexts document breaks)
nowhere_in_texts document breaks right none place w =
    none place.0 w.text (right.texts place.0 w.text w.there) place.1 w.broken

unbroken : (document : Document) → IsValidDocument document → (istd : ℕ) → ¬ (BreaksBases document.sheet istd)
unbroken document right istd broken = elim broken [
  | inl normal ↦ normal.1 right.bases.normal
  | inr none ↦ let found = right.bases.chains istd none.properties in none.none found.0 found.1
]

pub right_is_sound : (document : Document) → IsValidDocument document → IsSound document
right_is_sound document right =
    let sheet = document.sheet in
    let ends = nowhere_in_texts document HasWrongEnd right (λ part text t i w. w.1 t.ends) in
    let placed =
    nowhere_in_texts document (λ part text. IsWrongItem (IsPlacedRight part (length text)) text) right
    (λ part text t. none_wrong (IsPlacedRight part (length text)) text t.placed) in
    let fields =
    nowhere_in_texts document (λ part text. BreaksNesting text) right
    (λ part text t. nothing_open text (ap (λ items. after_all most_open (field_characters items) (Some []))
    (take-length text) ∙ nest_passes most_open (field_characters text) t.fields)) in
    let rows =
    nowhere_in_texts document (λ part text. BreaksRows text) right
    (λ part text t i w. elim w [
      | inl wrong ↦ none_wrong (λ i item. FitsRow (open_cells (take i text)) item) text t.rows i wrong
      | inr end ↦ end.1 t.row_ends
    ]) in
    let styles =
    nowhere_in_texts document (λ part text. IsWrongItem (λ place item. HasParagraphStyle sheet item) text) right
    (λ part text t. none_wrong (λ i item. HasParagraphStyle sheet item) text t.styles) in
    let short =
    nowhere_in_texts document (λ part text. IsWrongItem (λ i item. HasShortProperties item) text) right
    (λ part text t. none_wrong (λ i item. HasShortProperties item) text t.short) in
    let marks : Nowhere (HasWrongBookmarks document) = λ place w. elim w.1 [
      | inl many ↦ omega (arith, many.1, right.few_bookmarks)
      | inr twice ↦ right.names place.1 twice.1
    ] in
    let rules : Hold (document_rules document) = (
      (ends, (placed, (fields, (rows, styles)))),
      (
        λ place w. unbroken document right place.1 w.1,
        (
          (
            λ place w. w.1 right.notes,
            (λ place w. w.1 right.heads, (λ place w. omega (arith, w.1, right.few), marks)),
          ),
          (
            λ place w. elim w [ inl style ↦ style.1 (right.short place.1) | inr item ↦ short place item ],
            λ place w. w.1 (right.writable place.1),
          ),
        ),
      ),
    ) in
    record { rules = rules; bookmarks = right.bookmarks }
