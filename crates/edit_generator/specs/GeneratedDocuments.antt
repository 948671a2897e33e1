-- The documents that the generator comes to: a main text of letters and paragraph marks with one section, and all
-- else as in the
-- blank document.
use Rattle.std.specs.Prelude.{◌≡◌, ◌⊎◌, ℕ, ◌+◌, ◌*◌, ◌/◌, ◌<◌, ◌≤◌, List, [], ◌∷◌, ◌++◌, length, map, replicate, All}
use Rattle.std.specs.Prelude.{Some, None}
use Rattle.std.specs.Option.{ForSome}
use Rattle.std.specs.FinMap.{empty}
use Rattle.text_codes.specs.Paragraph.{paragraph_mark}
use Rattle.prop_map.specs.Settings.{Properties}
use Rattle.fkp_pages.specs.declared.kind.PageKind.TheVariants.{Chpx, Papx}
use Rattle.doc_model.specs.declared.item.Item.{Item}
use Rattle.doc_model.specs.declared.item.Mark.{Mark}
use Rattle.doc_model.specs.declared.document.Document.{Document}
use Rattle.doc_model.specs.Blank.{one_property, blank_document}
use Rattle.edit_generator.specs.FewRuns.{runs_of}

-- [MS-DOC] sprmCFBold
abbrev pub bold : Properties
bold = one_property 0x0835 1

abbrev pub IsBoldOrNone : Properties → Type 0
IsBoldOrNone chp = (chp ≡ empty) ⊎ (chp ≡ bold)

-- a character of ASCII that is no control
pub record IsPrinted (unit : ℕ) : Type 0 where
  pub low : 0x20 ≤ unit
  pub high : unit < 0x80

-- such a character
pub record IsLetter (item : Item) : Type 0 where
  pub unit : IsPrinted item.unit
  pub mark : item.mark ≡ None
  pub sect : item.sect ≡ None

-- the end of a paragraph of style 0 or 1, without properties
pub record IsPlainMark (item : Item) : Type 0 where
  pub unit : item.unit ≡ paragraph_mark
  pub mark : Mark
  pub has : item.mark ≡ Some mark
  pub style : mark.istd ≤ 1
  pub pap : mark.pap ≡ empty
  pub sect : ForSome item.sect (λ sect. sect ≡ empty)

pub record IsGeneratedItem (item : Item) : Type 0 where
  pub chp : IsBoldOrNone item.chp
  pub fld : item.fld ≡ None
  pub note : item.note ≡ None
  pub kind : IsLetter item ⊎ IsPlainMark item

-- a section ends at the last item alone
pub record IsGeneratedText (main : List Item) : Type 0 where
  pub each : All IsGeneratedItem main
  pub front : ℕ
  pub sections : map (λ item. item.sect) main ≡ replicate front None ++ Some empty ∷ []

-- after so many edits: of five in a row two put 22 items at most, one puts an item and a paragraph, and one makes two
-- runs of
-- characters more
pub record IsGeneratedDocument (edits : ℕ) (document : Document) : Type 0 where
  pub rest : document ≡ record blank_document { main = document.main }
  pub text : IsGeneratedText document.main
  pub items : length document.main ≤ 1 + 22 * ((edits + 4) / 5 + (edits + 3) / 5) + (edits + 2) / 5
  pub characters : runs_of Chpx document ≤ 1 + 2 * ((edits + 1) / 5)
  pub paragraphs : runs_of Papx document ≤ 1 + (edits + 2) / 5
