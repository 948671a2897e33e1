-- The lines on an item of the main text: what it and its paragraph have, and what is in effect.
use Rattle.std.specs.Prelude.{◌≡◌, ℕ, List, [], ◌∷◌, ◌++◌, codes, Some, slice_get}
use Rattle.std.specs.List.{flat_map}
use Rattle.std.specs.Fmt.{decimal, signed_decimal}
use Rattle.prop_map.specs.Settings.{Properties}
use Rattle.effective_props.specs.declared.tabs.Tab.{Tab}
use Rattle.effective_props.specs.declared.effective.ParaEffect.{ParaEffect}
use Rattle.effective_props.specs.Effective.{IsEffectiveCharacter, IsEffectiveParagraph}
use Rattle.doc_model.specs.declared.item.Item.{Item}
use Rattle.doc_model.specs.declared.item.Mark.{Mark}
use Rattle.doc_model.specs.declared.document.Document.{Document}
use Rattle.doc_model.specs.Paragraphs.{IsParagraphEnd}
use Rattle.text_codes.specs.Digits.{byte_text, word_text}
use Rattle.doc_show.specs.Settings.{properties_text}
use Rattle.text_codes.specs.Shown.{line}

-- a word and properties
abbrev pub properties_line : List ℕ → Properties → List ℕ
properties_line word map = line (word ++ properties_text map)

abbrev pub unit_line : ℕ → List ℕ
unit_line unit = line (codes "unit " ++ word_text unit)

abbrev pub style_line : ℕ → List ℕ
style_line istd = line (codes "style " ++ decimal istd)

-- a tab stop: its position with its sign, and the byte of its kind
abbrev pub tab_text : Tab → List ℕ
tab_text tab = 32 ∷ [] ++ (signed_decimal tab.at ++ (58 ∷ [] ++ byte_text tab.kind))

abbrev pub tabs_line : List Tab → List ℕ
tabs_line tabs = line (codes "tabs" ++ flat_map tab_text tabs)

-- an item in a paragraph of a style: its unit, the style, its own properties, those in effect
abbrev pub item_lines : Item → ℕ → Properties → List ℕ
item_lines item istd effective =
    unit_line item.unit
    ++ (style_line istd ++ (properties_line (codes "char") item.chp ++ properties_line (codes "char effective") effective))

-- the mark of its paragraph: its own properties, those in effect, the tab stops in effect
abbrev pub mark_lines : Mark → ParaEffect → List ℕ
mark_lines mark effective =
    properties_line (codes "par") mark.pap
    ++ (properties_line (codes "par effective") effective.map ++ tabs_line effective.tabs)

-- the mark is that of the first item with one, from a place on: the mark of the paragraph there
pub record IsMarkFrom (items : List Item) (from : ℕ) (mark : Mark) : Type 0 where
  pub end : ℕ
  pub is_end : IsParagraphEnd items from end
  pub item : Item
  pub there : slice_get items end ≡ Some item
  pub has : item.mark ≡ Some mark

-- what is at a place of the main text, and what is in effect there
pub record ItemProperties : Type 0 where
  pub item : Item
  pub mark : Mark
  pub characters : Properties
  pub paragraph : ParaEffect

-- the item, the mark of its paragraph, and what is in effect for both
pub record ArePropertiesAt (document : Document) (pos : ℕ) (found : ItemProperties) : Type 0 where
  pub item : slice_get document.main pos ≡ Some found.item
  pub mark : IsMarkFrom document.main pos found.mark
  pub characters : IsEffectiveCharacter document.sheet found.mark.istd found.item.chp found.characters
  pub paragraph : IsEffectiveParagraph document.sheet found.mark.istd found.mark.pap found.paragraph

-- the seven lines
abbrev pub property_lines : ItemProperties → List ℕ
property_lines found =
    item_lines found.item found.mark.istd found.characters ++ mark_lines found.mark found.paragraph

-- the text has the lines on the item there
pub record ArePropertyLines (document : Document) (pos : ℕ) (text : List ℕ) : Type 0 where
  pub found : ItemProperties
  pub are : ArePropertiesAt document pos found
  pub lines : text ≡ property_lines found
