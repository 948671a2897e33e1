-- What is in front of a paragraph's own text in a page of text: the break of a page, and the label of its list.
use Rattle.std.specs.Prelude.{ℕ, Bool, true, not, ◌&&◌, nat_le, if◌then◌else◌, List, [], ◌∷◌, ◌++◌, Option, Some, None}
use Rattle.std.specs.List.{filter_map}
use Rattle.list_numbers.specs.declared.paragraph_values.ListLabel.{ListLabel}
use Rattle.list_numbers.specs.declared.paragraph_values.ParagraphValues.{ParagraphValues}
use Rattle.view_places.specs.declared.glyph.Glyph.{Glyph}
use Rattle.view_places.specs.declared.glyph.Glyph.TheVariants.{Unit}
use Rattle.doc_view.specs.Glyphs.{glyphs_text, unit_glyph}

-- what is visible of a unit of a label. Profile: one of a symbol font is a bullet
abbrev pub label_glyph : ℕ → Option Glyph
label_glyph unit = if nat_le 0xF000 unit && nat_le unit 0xF0FF then Some (Unit 0x2022) else unit_glyph unit true

-- the glyphs of a label, and a space behind them
abbrev pub label_glyphs : List ℕ → List Glyph
label_glyphs units = filter_map label_glyph units ++ Unit 0x20 ∷ []

abbrev pub label_text : Bool → Option ListLabel → List ℕ
label_text in_table None = []
label_text in_table (Some label) = glyphs_text in_table (label_glyphs label.units)

-- a page breaks in front of a paragraph that is outside of tables
abbrev pub break_text : Bool → Bool → List ℕ
break_text in_table breaks_page = if breaks_page && not in_table then 12 ∷ [] else []

abbrev pub opening_text : Bool → Option ParagraphValues → List ℕ
opening_text in_table None = []
opening_text in_table (Some values) = break_text in_table values.breaks_page ++ label_text in_table values.label
