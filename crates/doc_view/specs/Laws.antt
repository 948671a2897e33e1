-- What the definitions imply.
use Rattle.std.specs.Prelude.{◌≡◌, ℕ, ◌+◌, ◌*◌, ◌≤◌, length, Bool, false, not, ◌&&◌, ◌||◌, ◌==◌, nat_le, nat_lt, encode_utf8_all}
use Rattle.std.specs.Prelude.{List, [], ◌∷◌, ◌++◌, Option, Some, None}
use Rattle.std.specs.List.{All, flat_map}
use Rattle.doc_model.specs.declared.document.Document.{Document}
use Rattle.doc_model.specs.declared.item.Item.{Item}
use Rattle.doc_model.specs.declared.item.Mark.{Mark}
use Rattle.plain_doc.specs.RulesOfSheet.{item_count}
use Rattle.plain_doc.specs.Sound.{IsSound}
use Rattle.doc_view.specs.declared.reading.Manner.{Manner}
use Rattle.doc_view.specs.declared.reading.Seen.{Seen}
use Rattle.doc_view.specs.declared.view.Options.{Options}
use Rattle.doc_view.specs.Page.{IsPage}
use Rattle.doc_view.specs.Seen.{Formats, Paragraph, front_of, glyphs_in, is_here, paragraphs_of, seen_as}

-- a document has one page of these options
abbrev pub PageIsOne : Type 0
PageIsOne =
    (options : Options) (document : Document) (one other : List ℕ) →
    IsPage options document one → IsPage options document other → one ≡ other

-- ---- controls

-- a character that a terminal takes for a control; a tab, a line feed and a form feed are none here
abbrev pub is_control_in_page : ℕ → Bool
is_control_in_page code =
    (nat_lt code 0x20 && not (code == 9 || (code == 10 || code == 12))) || (nat_le 0x7F code && nat_le code 0x9F)

-- the bytes of a page are characters of which none is a control
abbrev pub NoControls : Type 0
NoControls =
    (options : Options) (document : Document) (bytes : List ℕ) → IsPage options document bytes →
    (text : List ℕ) × ((bytes ≡ encode_utf8_all text) × All (λ code. is_control_in_page code ≡ false) text)

-- ---- length

-- a page is no longer than a number of bytes for each item of its document, whatever is in these
abbrev pub PagesAreShort : Type 0
PagesAreShort =
    (options : Options) (document : Document) (bytes : List ℕ) →
    IsSound document → IsPage options document bytes → length bytes ≤ 468 * item_count document + 4

-- ---- items

-- the style of the first mark, and style 0 where there is none
abbrev pub style_from : Option Mark → ℕ → ℕ
style_from None later = later
style_from (Some mark) later = mark.istd

unfoldable pub first_mark_style : List Item → ℕ
first_mark_style [] = 0
first_mark_style (item ∷ items) = style_from item.mark (first_mark_style items)

-- what is seen of items behind those in front of them: of each by its own format, in the style of the mark behind it
unfoldable pub each_seen : Formats → Manner → List Item → List Item → List Seen
each_seen formats manner front [] = []
each_seen formats manner front (item ∷ items) =
    seen_as manner (formats (first_mark_style (item ∷ items)) item.chp) (front_of manner front) item
    ∷ each_seen formats manner (front ++ item ∷ []) items

-- the glyphs of the paragraphs of a text are those of its shown items, in their order and each once; and a paragraph that
-- is not here has none
pub record ShowsEachOnce (formats : Formats) (manner : Manner) (text : List Item) : Type 0 where
  pub glyphs :
      flat_map (λ paragraph. glyphs_in paragraph.items) (paragraphs_of formats manner text)
      ≡ glyphs_in (each_seen formats manner [] text)
  pub absent : (paragraph : Paragraph) → is_here paragraph ≡ false → glyphs_in paragraph.items ≡ []

abbrev pub EachItemIsShownOnce : Type 0
EachItemIsShownOnce = (formats : Formats) (manner : Manner) (text : List Item) → ShowsEachOnce formats manner text
