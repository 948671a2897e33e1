-- The symbol fonts of a document, by its font table.
use Rattle.std.specs.Prelude.{ℕ, zero, suc, ◌+◌, ◌==◌, Bool, false, ◌&&◌, ◌||◌, nat_le, if◌then◌else◌, List, [], ◌∷◌, ◌++◌}
use Rattle.std.specs.Prelude.{length, take, drop, slice_range, Option, Some, None, codes, bytes_eq}
use Rattle.std.specs.List.{flat_map}
use Rattle.doc_bits.specs.Number.{u16_at}
use Rattle.symbol_fonts.specs.declared.characters.SymbolFont.{SymbolFont}
use Rattle.symbol_fonts.specs.declared.characters.SymbolFont.TheVariants.{Symbol, Wingdings, Wingdings2}
use Rattle.symbol_fonts.specs.declared.characters.SymbolFont.TheVariants.{Wingdings3, Webdings, Dingbats}
use Rattle.symbol_fonts.specs.declared.fonts.SymbolFonts.{SymbolFonts}

-- [MS-DOC] SttbfFfn: so many FFNs, each behind its length in a byte
-- Profile: behind one that is cut off there is none
unfoldable pub records : ℕ → List ℕ → List (List ℕ)
records zero bytes = []
records (suc count) [] = []
records (suc count) (len ∷ rest) =
    if nat_le len (length rest) then take len rest ∷ records count (drop len rest) else []

-- behind their number and the length of what else there is of each
abbrev pub fonts_in : List ℕ → List (List ℕ)
fonts_in table = records (u16_at table 0) (drop 4 table)

-- [MS-DOC] FFN: xszFfn, in units of two bytes up to a zero
abbrev pub font_name_place : ℕ
font_name_place = 39

abbrev pub is_font_named : List ℕ → List ℕ → Bool
is_font_named name font =
    nat_le (font_name_place + length name) (length font)
    && bytes_eq (slice_range font font_name_place (font_name_place + length name)) name

abbrev pub font_name_bytes : List ℕ → List ℕ
font_name_bytes name = flat_map (λ unit. unit ∷ 0 ∷ []) name ++ 0 ∷ 0 ∷ []

-- the number of the first font of a name, where the first of all has this number
unfoldable pub first_named : List ℕ → ℕ → List (List ℕ) → Option ℕ
first_named name number [] = None
first_named name number (font ∷ more) = if is_font_named name font then Some number else first_named name (number + 1)
    more

-- Profile: a font is a symbol font by its name, and the first of that name
abbrev pub symbol_fonts : List ℕ → SymbolFonts
symbol_fonts table = record {
  symbol = first_named (font_name_bytes (codes "Symbol")) 0 (fonts_in table);
  wingdings = first_named (font_name_bytes (codes "Wingdings")) 0 (fonts_in table);
  wingdings_2 = first_named (font_name_bytes (codes "Wingdings 2")) 0 (fonts_in table);
  wingdings_3 = first_named (font_name_bytes (codes "Wingdings 3")) 0 (fonts_in table);
  webdings = first_named (font_name_bytes (codes "Webdings")) 0 (fonts_in table);
  zapf_dingbats = first_named (font_name_bytes (codes "ZapfDingbats")) 0 (fonts_in table);
  monotype_sorts = first_named (font_name_bytes (codes "Monotype Sorts")) 0 (fonts_in table);
}

abbrev pub is_number : Option ℕ → ℕ → Bool
is_number None number = false
is_number (Some font) number = font == number

-- the signs of Monotype Sorts are those of Zapf Dingbats
abbrev pub is_dingbats : SymbolFonts → ℕ → Bool
is_dingbats fonts number = is_number fonts.zapf_dingbats number || is_number fonts.monotype_sorts number

abbrev pub other_font : SymbolFonts → ℕ → Option SymbolFont
other_font fonts number =
    if is_number fonts.wingdings_2 number then Some Wingdings2 else
    if is_number fonts.wingdings_3 number then Some Wingdings3 else
    if is_number fonts.webdings number then Some Webdings else
    if is_dingbats fonts number then Some Dingbats else None

-- which symbol font the font of a number is
abbrev pub symbol_font : SymbolFonts → Option ℕ → Option SymbolFont
symbol_font fonts None = None
symbol_font fonts (Some number) =
    if is_number fonts.symbol number then Some Symbol else
    if is_number fonts.wingdings number then Some Wingdings else other_font fonts number
