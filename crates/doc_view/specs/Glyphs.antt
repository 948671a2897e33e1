-- What is visible of a unit, and the characters of that in a page of text.
use Rattle.std.specs.Prelude.{ℕ, Bool, false, not, ◌&&◌, ◌||◌, ◌==◌, nat_lt, nat_le, if◌then◌else◌}
use Rattle.std.specs.Prelude.{List, [], ◌∷◌, ◌++◌, Option, Some, None, codes}
use Rattle.std.specs.Fmt.{decimal}
use Rattle.text_codes.specs.Compressed.{compressed_unit}
use Rattle.text_codes.specs.Shown.{is_pair, pair_code}
use Rattle.char_formats.specs.declared.format.CharFormat.{CharFormat}
use Rattle.char_formats.specs.declared.format.Symbol.{Symbol}
use Rattle.symbol_fonts.specs.declared.fonts.SymbolFonts.{SymbolFonts}
use Rattle.symbol_fonts.specs.Characters.{shown_unit}
use Rattle.symbol_fonts.specs.Fonts.{symbol_font}
use Rattle.view_places.specs.declared.glyph.Glyph.{Glyph}
use Rattle.view_places.specs.declared.glyph.Glyph.TheVariants.{Unit, Tab, LineBreak, PageBreak, NoteMark, Picture, Object}
use Rattle.text_codes.specs.Halves.{replacement, is_surrogate}

-- Profile: a unit from 7F to 9F is a byte of Windows-1252, and U+FFFD where that has no character
abbrev pub windows_unit : ℕ → ℕ
windows_unit unit =
    if unit == 0x80 then 0x20AC else
    if unit == 0x8E then 0x017D else
    if unit == 0x9E then 0x017E else
    if compressed_unit unit == unit then replacement else compressed_unit unit

-- a unit below 0x20: [MS-DOC] 1E is a hyphen that does not break, 1F an optional one, which is seen at line ends alone;
-- 0C is the break of a page where no section ends there
abbrev pub control_glyph : ℕ → Bool → Option Glyph
control_glyph unit ends_section =
    if unit == 0x09 then Some Tab else
    if unit == 0x0B || unit == 0x0E then Some LineBreak else
    if unit == 0x0C && not ends_section then Some PageBreak else
    if unit == 0x1E then Some (Unit 0x2011) else None

abbrev pub is_windows : ℕ → Bool
is_windows unit = nat_le 0x7F unit && nat_le unit 0x9F

-- a unit that is text
abbrev pub unit_glyph : ℕ → Bool → Option Glyph
unit_glyph unit ends_section =
    if nat_lt unit 0x20 then control_glyph unit ends_section else
    Some (Unit (if is_windows unit then windows_unit unit else unit))

-- [MS-DOC] sprmCSymbol: its code is in place of the unit; each is shown by its font
abbrev pub text_unit : SymbolFonts → Option ℕ → Option Symbol → ℕ → ℕ
text_unit fonts font None unit = shown_unit (symbol_font fonts font) unit
text_unit fonts font (Some symbol) unit = shown_unit (symbol_font fonts (Some symbol.font)) symbol.code

abbrev pub drawn_unit : SymbolFonts → CharFormat → ℕ → ℕ
drawn_unit fonts format unit = if nat_lt unit 0x20 then unit else text_unit fonts format.font format.symbol unit

-- [MS-DOC] sprmCFSpec: 01 and 08 represent pictures and objects, or for the data of a field
abbrev pub is_stand_in : CharFormat → ℕ → Bool
is_stand_in format unit = format.special && (unit == 0x01 || unit == 0x08)

abbrev pub stand_in_glyph : CharFormat → Option Glyph
stand_in_glyph format = if format.of_field then None else if format.object then Some Object else Some (Picture format.picture)

-- what is visible of a unit of this format in a document with these symbol fonts
abbrev pub visible_glyph : SymbolFonts → CharFormat → Bool → ℕ → Option Glyph
visible_glyph fonts format ends_section unit =
    if is_stand_in format unit then stand_in_glyph format else
    unit_glyph (drawn_unit fonts format unit) ends_section

-- the characters of a glyph; in a cell each break is a space, so a row is a line and its cells are its tabs
abbrev pub glyph_text : Bool → Glyph → List ℕ
glyph_text in_cell (Unit unit) = (if is_surrogate unit then replacement else unit) ∷ []
glyph_text in_cell Tab = (if in_cell then 32 else 9) ∷ []
glyph_text in_cell LineBreak = (if in_cell then 32 else 10) ∷ []
glyph_text in_cell PageBreak = (if in_cell then 32 else 12) ∷ []
glyph_text in_cell (NoteMark number) = 91 ∷ [] ++ (decimal number ++ 93 ∷ [])
glyph_text in_cell (Picture place) = codes "[picture]"
glyph_text in_cell Object = codes "[object]"

-- two glyphs are the halves of one character
abbrev pub are_halves : Glyph → Glyph → Bool
are_halves (Unit first) (Unit second) = is_pair first second
are_halves one next = false

abbrev pub halves_text : Glyph → Glyph → List ℕ
halves_text (Unit first) (Unit second) = pair_code first second ∷ []
halves_text one next = []

-- glyphs in a row: the halves of a character are that character, and each other glyph has its own text
unfoldable pub glyphs_text : Bool → List Glyph → List ℕ
glyphs_text in_cell [] = []
glyphs_text in_cell (one ∷ []) = glyph_text in_cell one
glyphs_text in_cell (one ∷ next ∷ more) =
    if are_halves one next then halves_text one next ++ glyphs_text in_cell more else glyph_text in_cell one ++
    glyphs_text
    in_cell (next ∷ more)
