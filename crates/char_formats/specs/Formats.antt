-- How a character looks, and what else its properties say of it, by their effective values.
use Rattle.std.specs.Prelude.{◌≡◌, ℕ, ◌==◌, Bool, false, not, ◌||◌, List, length, Option, Some, None, if◌then◌else◌}
use Rattle.doc_bits.specs.Number.{u16_at}
use Rattle.prop_map.specs.Settings.{Properties}
use Rattle.style_sheet.specs.Sheet.{Sheet}
use Rattle.effective_props.specs.Toggles.{is_byte}
use Rattle.effective_props.specs.Values.{effective_value}
use Rattle.effective_props.specs.Layers.{AreCharacterLayers}
use Rattle.char_formats.specs.declared.format.CharFormat.{CharFormat}
use Rattle.char_formats.specs.Locations.{location_in}
use Rattle.char_formats.specs.declared.format.Position.{Position}
use Rattle.char_formats.specs.declared.format.Symbol.{Symbol}
use Rattle.char_formats.specs.declared.format.Position.TheVariants.{Normal, Raised, Lowered}

-- a value is there, and it is not the one byte 00
abbrev pub is_nonzero_value : Option (List ℕ) → Bool
is_nonzero_value None = false
is_nonzero_value (Some value) = not (is_byte value 0)

-- [MS-DOC] Iss: 01 is superscript, 02 subscript
abbrev pub position_of : Option (List ℕ) → Position
position_of None = Normal
position_of (Some value) = if is_byte value 1 then Raised else if is_byte value 2 then Lowered else Normal

-- [MS-DOC] CSymbolOperand: the font, and the code of the character
-- Profile: a value of another length names no character
abbrev pub symbol_of : Option (List ℕ) → Option Symbol
symbol_of None = None
symbol_of (Some value) =
    if length value == 4 then Some (record { font = u16_at value 0; code = u16_at value 2 }) else None

-- [MS-DOC] sprmCRgFtc2: the font, by its number in SttbfFfn
-- Profile: a value of another length names none
abbrev pub font_of : Option (List ℕ) → Option ℕ
font_of None = None
font_of (Some value) = if length value == 2 then Some (u16_at value 0) else None

-- [MS-DOC] sprmCFBold, sprmCFItalic, sprmCKul, sprmCFStrike and sprmCFDStrike, sprmCFSmallCaps, sprmCFCaps, sprmCIss,
-- sprmCFVanish, sprmCFSpec, sprmCFData, sprmCFOle2 and sprmCFObj, sprmCSymbol, sprmCRgFtc2, of a character that names a
-- picture or none
unfoldable pub format_in : Option ℕ → (ℕ → Option (List ℕ)) → CharFormat
format_in picture values = record {
  bold = is_nonzero_value (values 0x0835);
  italic = is_nonzero_value (values 0x0836);
  underline = is_nonzero_value (values 0x2A3E);
  strike = is_nonzero_value (values 0x0837) || is_nonzero_value (values 0x2A53);
  small_caps = is_nonzero_value (values 0x083A);
  caps = is_nonzero_value (values 0x083B);
  position = position_of (values 0x2A48);
  hidden = is_nonzero_value (values 0x083C);
  special = is_nonzero_value (values 0x0855);
  of_field = is_nonzero_value (values 0x0806);
  object = is_nonzero_value (values 0x080A) || is_nonzero_value (values 0x0856);
  symbol = symbol_of (values 0x6A09);
  font = font_of (values 0x4A51);
  picture = picture;
}

-- the format of a character, with these direct properties, in a paragraph of the style
pub record IsCharFormat (sheet : Sheet) (istd : ℕ) (direct : Properties) (format : CharFormat) : Type 0 where
  pub layers : List Properties
  pub are : AreCharacterLayers sheet istd direct layers
  pub said : format ≡ format_in (location_in direct) (effective_value layers)
