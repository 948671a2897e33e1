-- Places as Markdown has them: without the formats and the nested tables that it has no markup for, and with white
-- space outside of emphasis, which would else be none.
use Rattle.std.specs.Prelude.{ℕ, ◌==◌, ◌-◌, nat_le, Bool, true, false, not, ◌||◌, ◌&&◌, List, [], ◌∷◌, length, filter}
use Rattle.std.specs.Prelude.{map}
use Rattle.std.specs.Prelude.{Option, None, Some, slice_get, if◌then◌else◌}
use Rattle.view_paths.specs.Paths.{PathPlace}
use Rattle.view_places.specs.declared.element.Element.{Element}
use Rattle.view_places.specs.declared.element.Element.TheVariants.{Notes, Note, Table, TableHead, TableBody, Row, Cell}
use Rattle.view_places.specs.declared.element.Element.TheVariants.{HeadCell, List as AList, Item, Paragraph, Label}
use Rattle.view_places.specs.declared.element.Element.TheVariants.{NestedTable, NestedRow, NestedCell}
use Rattle.view_places.specs.declared.element.Element.TheVariants.{Reference, BackLink, Bold, Italic, Underline, Strike}
use Rattle.view_places.specs.declared.element.Element.TheVariants.{Link, Anchor}
use Rattle.view_places.specs.declared.element.Element.TheVariants.{SmallCaps, Caps, Raised, Lowered}
use Rattle.view_places.specs.declared.glyph.Glyph.{Glyph}
use Rattle.view_places.specs.declared.glyph.Glyph.TheVariants.{Unit, Tab, LineBreak, PageBreak, NoteMark, Picture}
use Rattle.view_places.specs.declared.glyph.Glyph.TheVariants.{Object}
use Rattle.markdown_page.specs.declared.shape.Kind.{Kind}
use Rattle.markdown_page.specs.declared.shape.Kind.TheVariants.{Block, ToNote, FromNote, Emphasis, Tagged, Unmarked}

abbrev pub Places : Type 0
Places = List (PathPlace Element Glyph)

abbrev pub element_kind : Element → Kind
element_kind Notes = Block
element_kind (Note number) = Block
element_kind (Table first) = Block
element_kind TableHead = Block
element_kind TableBody = Block
element_kind (Row first) = Block
element_kind (Cell number) = Block
element_kind (HeadCell number) = Block
element_kind (NestedTable first) = Unmarked
element_kind (NestedRow first) = Unmarked
element_kind (NestedCell number) = Unmarked
element_kind (AList list) = Block
element_kind (Item number) = Block
element_kind (Paragraph paragraph) = Block
element_kind Label = Block
element_kind (Reference number) = ToNote
element_kind (BackLink number) = FromNote
element_kind (Link link) = Block
element_kind (Anchor number) = Block
element_kind Bold = Emphasis
element_kind Italic = Emphasis
element_kind Underline = Tagged
element_kind Strike = Emphasis
element_kind SmallCaps = Unmarked
element_kind Caps = Unmarked
element_kind Raised = Tagged
element_kind Lowered = Tagged

-- the innermost element
abbrev pub kind_or_block : Option Element → Kind
kind_or_block None = Block
kind_or_block (Some element) = element_kind element

abbrev pub inner_kind : List Element → Kind
inner_kind path = kind_or_block (slice_get path (length path - 1))

-- the white space of Unicode that units are
abbrev pub is_white : ℕ → Bool
is_white unit =
    unit == 0x20 || (unit == 0x85 || (unit == 0xA0 || (unit == 0x1680
    || ((nat_le 0x2000 unit && nat_le unit 0x200A) || (unit == 0x2028 || (unit == 0x2029 || (unit == 0x202F
    || (unit == 0x205F || unit == 0x3000))))))))

abbrev pub is_space : Option Glyph → Bool
is_space None = false
is_space (Some (Unit unit)) = is_white unit
is_space (Some Tab) = true
is_space (Some LineBreak) = false
is_space (Some PageBreak) = false
is_space (Some (NoteMark number)) = false
is_space (Some (Picture place)) = false
is_space (Some Object) = false

abbrev pub is_to_note : Kind → Bool
is_to_note Block = false
is_to_note ToNote = true
is_to_note FromNote = false
is_to_note Emphasis = false
is_to_note Tagged = false
is_to_note Unmarked = false

-- what a place is in by its innermost element: a reference to a note has no format
abbrev pub keeps : Kind → Bool → Kind → Bool
keeps inner space Block = true
keeps inner space ToNote = true
keeps inner space FromNote = true
keeps inner space Emphasis = not (is_to_note inner) && not space
keeps inner space Tagged = not (is_to_note inner)
keeps inner space Unmarked = false

abbrev pub shaped_path : Option Glyph → List Element → List Element
shaped_path glyph path = filter (λ element. keeps (inner_kind path) (is_space glyph) (element_kind element)) path

-- the number of a note is in the markup of the note, and of references to it
abbrev pub without_number : Glyph → Option Glyph
without_number (Unit unit) = Some (Unit unit)
without_number Tab = Some Tab
without_number LineBreak = Some LineBreak
without_number PageBreak = Some PageBreak
without_number (NoteMark number) = None
without_number (Picture place) = Some (Picture place)
without_number Object = Some Object

abbrev pub unnumbered_glyph : Option Glyph → Option Glyph
unnumbered_glyph None = None
unnumbered_glyph (Some glyph) = without_number glyph

abbrev pub is_from_note : Kind → Bool
is_from_note Block = false
is_from_note ToNote = false
is_from_note FromNote = true
is_from_note Emphasis = false
is_from_note Tagged = false
is_from_note Unmarked = false

abbrev pub shaped_glyph : Kind → Option Glyph → Option Glyph
shaped_glyph inner glyph = if is_from_note inner then None else unnumbered_glyph glyph

abbrev pub shaped : PathPlace Element Glyph → PathPlace Element Glyph
shaped place = record {
  path = shaped_path place.glyph place.path;
  glyph = shaped_glyph (inner_kind place.path) place.glyph;
}

abbrev pub all_shaped : Places → Places
all_shaped places = map shaped places
