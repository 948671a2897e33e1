-- A document whose texts are walked over one by one, and whose sheet and counts are right, is sound.
use Rattle.std.proofs.Common.{◌≡◌, ◌≤◌, length, None, ◌∙◌, ap, arith}
use Rattle.doc_bits.specs.Rules.{Nowhere}
use Rattle.doc_bits.specs.declared.places.Where.TheVariants.{Main}
use Rattle.document_bookmarks.specs.Names.{HasSameName}
use Rattle.style_sheet.specs.Chain.{BreaksBases}
use Rattle.doc_model.specs.declared.document.Document.{Document}
use Rattle.plain_doc.specs.declared.rules_counts.Counts.{Counts}
use Rattle.plain_doc.specs.declared.rules_texts.Side.TheVariants.{Notes, Heads}
use Rattle.doc_model.specs.Marks.{HasFormedBookmarks, most_bookmarks}
use Rattle.plain_doc.specs.RulesOfItems.{IsWrongItem, HasShortProperties}
use Rattle.plain_doc.specs.RulesOfSheet.{HasShortStyle, FitsStd, heads_of_sections, item_count, most_items}
use Rattle.plain_doc.specs.Sound.{IsSound, IsValidSheet}
use Rattle.plain_doc.specs.TextRules.{BreaksText}
use Rattle.plain_doc.specs.TextWalk.{KeepsTextRules, AreValidTexts, AreTextsRight, HasTextCounts}
use Rattle.doc_model.proofs.Public.{right_names}
use Rattle.plain_doc.proofs.SheetLemmas.{no_style, texts_after}
use Rattle.plain_doc.proofs.TextPlaceLemmas.{first_in_heads}
use Rattle.plain_doc.proofs.TextWalkLemmas.{texts_right}

-- the texts of a document are its main text, its notes and its header texts
pub all_texts : (document : Document) → KeepsTextRules document.sheet Main document.main →
    AreValidTexts document.sheet Notes document.notes → AreValidTexts document.sheet Heads document.heads →
    AreTextsRight document
all_texts document main notes heads =
    texts_right document
    (λ rule. first_in_heads document (BreaksText rule document.sheet) None (main rule) (notes rule) (heads rule))

-- what the counts and the bookmarks of a document are to be
pub record HasValidCounts (document : Document) (counts : Counts) : Type 0 where
  pub counted : HasTextCounts document.main counts
  pub notes : length document.notes ≡ counts.notes
  pub heads : length document.heads ≡ heads_of_sections counts.sections
  pub few : item_count document ≤ most_items
  pub bookmarks : HasFormedBookmarks document
  pub few_bookmarks : length document.bookmarks ≤ most_bookmarks
  pub names : Nowhere (HasSameName document.bookmarks)

pub judged_sound : (document : Document) (counts : Counts) → AreTextsRight document → IsValidSheet document.sheet →
    HasValidCounts document counts → IsSound document
judged_sound document counts texts sheet right = record {
  rules = (
    texts.rules,
    (
      no_style (BreaksBases document.sheet) sheet.bases,
      (
        (
          λ place w. w.1 (right.notes ∙ right.counted.notes),
          (
            λ place w. w.1 (right.heads ∙ ap heads_of_sections right.counted.sections),
            (
              λ place w. omega (arith, w.1, right.few),
              λ place w. right_names document.bookmarks right.few_bookmarks right.names place.1 w.1,
            ),
          ),
        ),
        (
          texts_after document (λ part text. IsWrongItem (λ i item. HasShortProperties item) text)
              (λ istd. ¬ (HasShortStyle document.sheet istd)) None sheet.short texts.properties,
          no_style (λ istd. ¬ (FitsStd document.sheet istd)) sheet.writable,
        ),
      ),
    ),
  );
  bookmarks = right.bookmarks;
}
