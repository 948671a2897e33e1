-- Properties that are put into a style.
use Rattle.std.specs.Prelude.{◌≡◌, ℕ, false, Option, Some, None, slice_set}
use Rattle.std.specs.FinMap.{empty}
use Rattle.prop_map.specs.Settings.{Properties}
use Rattle.prop_map.specs.Modifiers.{IsOver}
use Rattle.style_sheet.specs.declared.styles.Style.{Style}
use Rattle.style_sheet.specs.declared.styles.Kind.{Kind}
use Rattle.style_sheet.specs.declared.styles.Kind.TheVariants.{Para, Char, Other}
use Rattle.style_sheet.specs.Sheet.{Sheet, style_at}

-- the character properties of a style, where its kind has them
abbrev pub kind_characters : Kind → Properties
kind_characters (Para pap chp) = chp
kind_characters (Char chp) = chp
kind_characters (Other stk upxes) = empty

-- the kind with other character properties, where it has them
abbrev pub with_characters : Kind → Properties → Kind
with_characters (Para pap chp) map = Para pap map
with_characters (Char chp) map = Char map
with_characters (Other stk upxes) map = Other stk upxes

-- the paragraph properties of a style, where its kind has them
abbrev pub pap_of_style : Kind → Properties
pap_of_style (Para pap chp) = pap
pap_of_style (Char chp) = empty
pap_of_style (Other stk upxes) = empty

-- the kind with other paragraph properties, where it has them
abbrev pub with_paragraphs : Kind → Properties → Kind
with_paragraphs (Para pap chp) map = Para map chp
with_paragraphs (Char chp) map = Char chp
with_paragraphs (Other stk upxes) map = Other stk upxes

abbrev pub with_kind : Style → Kind → Style
with_kind style kind = record style { kind = kind }

-- the sheet with this style in the slot
abbrev pub with_style : Sheet → ℕ → Style → Sheet
with_style sheet istd style = record { head = sheet.head; styles = slice_set sheet.styles istd (Some style) }

-- each code of the map has replaced the value that the character properties had there, and all else stays
pub record HasCharactersOver (old : Kind) (set : Properties) (new : Kind) : Type 0 where
  pub map : Properties
  pub over : IsOver false set (kind_characters old) map
  pub kind : new ≡ with_characters old map

-- the same of the paragraph properties
pub record HasParagraphsOver (old : Kind) (set : Properties) (new : Kind) : Type 0 where
  pub map : Properties
  pub over : IsOver false set (pap_of_style old) map
  pub kind : new ≡ with_paragraphs old map

-- the properties of the style in the slot have changed, and all else stays
pub record ChangesStyle (change : Kind → Kind → Type 0) (istd : ℕ) (old new : Sheet) : Type 0 where
  pub style : Style
  pub kind : Kind
  pub there : style_at old istd ≡ Some style
  pub changed : change style.kind kind
  pub sheet : new ≡ with_style old istd (with_kind style kind)

abbrev pub SetsCharacters : ℕ → Properties → Sheet → Sheet → Type 0
SetsCharacters istd set old new = ChangesStyle (λ kind made. HasCharactersOver kind set made) istd old new

abbrev pub SetsParagraphs : ℕ → Properties → Sheet → Sheet → Type 0
SetsParagraphs istd set old new = ChangesStyle (λ kind made. HasParagraphsOver kind set made) istd old new

-- the style without its base
abbrev pub as_root : Style → Style
as_root style = record style { base = None }

abbrev pub put_as_root : Sheet → ℕ → Option Style → Sheet
put_as_root sheet istd None = sheet
put_as_root sheet istd (Some style) = with_style sheet istd (as_root style)

-- the sheet with the base of a style gone, where the style is there
abbrev pub base_dropped : Sheet → ℕ → Sheet
base_dropped sheet istd = put_as_root sheet istd (style_at sheet istd)
