-- The text of a saved document: the main text, the notes and the header texts, with the marks behind stories.
use Rattle.std.specs.Prelude.{ℕ, Bool, true, false, List, [], ◌∷◌, ◌++◌, length, Some, None}
use Rattle.std.specs.FinMap.{empty}
use Rattle.text_codes.specs.Paragraph.{paragraph_mark}
use Rattle.doc_model.specs.declared.item.Item.{Item}
use Rattle.doc_model.specs.declared.document.Document.{Document}
use Rattle.doc_model.specs.Collected.{joined_texts}

-- Profile: a mark behind a story has no properties and style 0
abbrev pub extra_mark : Item
extra_mark = record {
  unit = paragraph_mark;
  fld = None;
  note = None;
  chp = empty;
  mark = Some (record { istd = 0; pap = empty });
  sect = None;
}

-- items, and one more mark behind them where there are some
abbrev pub with_mark : List Item → List Item
with_mark [] = []
with_mark (item ∷ items) = (item ∷ items) ++ extra_mark ∷ []

-- a mark alone, where there is one
abbrev pub mark_if : Bool → List Item
mark_if true = extra_mark ∷ []
mark_if false = []

-- all notes, and all header texts, each with its mark
unfoldable pub note_story : Document → List Item
note_story document = with_mark (joined_texts document.notes)

unfoldable pub head_story : Document → List Item
head_story document = with_mark (joined_texts document.heads)

-- the whole text, one item a CP; where notes or header texts are there, one more mark is at its end
unfoldable pub text_items : Document → List Item
text_items document = document.main ++ with_mark (note_story document ++ head_story document)

-- [MS-DOC] ccpText, ccpFtn, ccpHdd: the items of the three stories, with the marks behind two of them
unfoldable pub text_counts : Document → List ℕ
text_counts document = length document.main ∷ length (note_story document) ∷ length (head_story document) ∷ []
