-- The rules on documents, 60 to 71, in their order, and the documents that break none.
use Rattle.std.specs.Prelude.{ℕ, ◌⊎◌, length}
use Rattle.doc_bits.specs.Rules.{Rules, rule, ◌then◌, Hold, Breaks, IsLeastOfAll, Nowhere}
use Rattle.doc_bits.specs.Places.{Place, Upto, IsFirstPlace}
use Rattle.style_sheet.specs.Chain.{BreaksBases}
use Rattle.style_sheet.specs.Sheet.{Sheet}
use Rattle.style_sheet.specs.Written.{IsWritable}
use Rattle.plain_doc.specs.declared.judge.DocFault.{DocFault}
use Rattle.doc_model.specs.declared.document.Document.{Document}
use Rattle.doc_model.specs.Marks.{HasFormedBookmarks, HasWrongBookmarks}
use Rattle.plain_doc.specs.Nesting.{BreaksNesting}
use Rattle.plain_doc.specs.Rows.{BreaksRows}
use Rattle.plain_doc.specs.RulesOfItems.{IsWrongItem, IsPlacedRight, HasShortProperties}
use Rattle.plain_doc.specs.RulesOfTexts.{InTexts, HasWrongEnd, HasParagraphStyle}
use Rattle.plain_doc.specs.RulesOfSheet.{InSheet, HasShortStyle, FitsStd, note_count, head_count, IsOtherCount}
use Rattle.plain_doc.specs.RulesOfSheet.{HasTooManyItems}

-- each text ends right, its items are placed right, its fields nest, its rows are whole, its marks have styles of
-- paragraphs
abbrev pub text_rules : Document → Rules Place
text_rules document =
    rule 60 (InTexts document HasWrongEnd) then
    rule 61 (InTexts document (λ part text. IsWrongItem (IsPlacedRight part (length text)) text)) then
    rule 62 (InTexts document (λ part text. BreaksNesting text)) then
    rule 63 (InTexts document (λ part text. BreaksRows text)) then
    rule 64 (InTexts document (λ part text. IsWrongItem (λ place item. HasParagraphStyle document.sheet item) text))

-- style 0 is one of paragraphs, and the bases of each style of paragraphs or characters end
abbrev pub base_rules : Document → Rules Place
base_rules document = rule 65 (InSheet (BreaksBases document.sheet))

-- as many notes as references, six heads and six a section, not too many items, not too many bookmarks, and their
-- names differ
abbrev pub count_rules : Document → Rules Place
count_rules document =
    rule 66 (IsOtherCount document.notes (note_count document.main)) then
    rule 67 (IsOtherCount document.heads (head_count document.main)) then
    rule 68 (HasTooManyItems document) then
    rule 69 (HasWrongBookmarks document)

-- the properties of a style or of an item are too long for the pages of a file
abbrev pub HasLongProperties : Document → Place → Type 0
HasLongProperties document place =
    InSheet (λ istd. ¬ (HasShortStyle document.sheet istd)) place ⊎
    InTexts document (λ part text. IsWrongItem (λ i item. HasShortProperties item) text) place

-- the properties fit the pages of a file, and each style fits an STD
abbrev pub size_rules : Document → Rules Place
size_rules document =
    rule 70 (HasLongProperties document) then
    rule 71 (InSheet (λ istd. ¬ (FitsStd document.sheet istd)))

abbrev pub document_rules : Document → Rules Place
document_rules document =
    text_rules document then
    base_rules document then
    count_rules document then
    size_rules document

-- the styles of the sheet break no rule
pub record IsValidSheet (sheet : Sheet) : Type 0 where
  pub bases : Nowhere (BreaksBases sheet)
  pub short : Nowhere (λ istd. ¬ (HasShortStyle sheet istd))
  pub writable : Nowhere (λ istd. ¬ (FitsStd sheet istd))

-- the document breaks none of the rules, and its bookmarks are formed, which no type of its parts alone keeps
pub record IsSound (document : Document) : Type 0 where
  pub rules : Hold (document_rules document)
  pub bookmarks : HasFormedBookmarks document

-- it names the first of the rules that is broken, at its least place
abbrev pub NamesFirstRule : Rules Place → DocFault → Type 0
NamesFirstRule rules fault = IsFirstPlace rules fault.rule (fault.place, fault.at)

-- the first broken rule of a document is the least of all that are broken, at its least place
abbrev pub FirstDocFaultIsLeast : Type 0
FirstDocFaultIsLeast =
    (document : Document) (number : ℕ) (place : Place) →
    IsFirstPlace (document_rules document) number place →
    IsLeastOfAll Upto (Breaks (document_rules document)) number place

-- the styles of a document that breaks no rule can be printed
abbrev pub SoundSheetIsWritable : Type 0
SoundSheetIsWritable = (document : Document) → IsSound document → IsWritable document.sheet
