-- [MS-DOC] Sprm: a word of bits 0 to 8 ispmd, 9 fSpec, 10 to 12 sgc, 13 to 15 spra. Its group and its class.
use Rattle.std.specs.Prelude.{◌≡◌, ℕ, ◌/◌, ◌%◌, ◌^◌, ◌==◌, Bool, true, false, ◌||◌, if◌then◌else◌, IsTrue, List, []}
use Rattle.std.specs.Prelude.{◌∷◌}
use Rattle.sprm_table.specs.declared.codes.Class.{Class}
use Rattle.sprm_table.specs.declared.codes.Class.TheVariants.{Plain, Toggle, Clear, Style, Refused}

-- sgc: 1 paragraph, 2 character, 3 picture, 4 section, 5 table
abbrev pub sgc : ℕ → ℕ
sgc code = code / 1024 % 8

-- a place that holds these groups holds the code: groups has bit sgc set
abbrev pub is_held : ℕ → ℕ → Bool
is_held groups code = groups / 2 ^ sgc code % 2 == 1

-- the code is one of these
abbrev pub is_code_among : ℕ → List ℕ → Bool
is_code_among code [] = false
is_code_among code (other ∷ others) = code == other || is_code_among code others

-- Profile: the toggles, sprmCFBold to sprmCFVanish, sprmCFImprint and sprmCFEmboss
abbrev pub toggles : List ℕ
toggles = 0x0835 ∷ 0x0836 ∷ 0x0837 ∷ 0x0838 ∷ 0x0839 ∷ 0x083A ∷ 0x083B ∷ 0x083C ∷ 0x0854 ∷ 0x0858 ∷ []

-- Profile: the codes that are not read: relative changes, sprmPHugePapx, revisions
abbrev pub refused_codes : List ℕ
refused_codes = 0x4610 ∷ 0xC615 ∷ 0xCA47 ∷ 0x6645 ∷ 0x6646 ∷ 0x0800 ∷ 0x0801 ∷ 0xCA57 ∷ 0xC63F ∷ []

-- what a sprm does; sprmCPlain clears, sprmPIstd names the style, and what no list names is plain
abbrev pub class_of : ℕ → Class
class_of code =
    if code == 0x2A33 then Clear else
    if code == 0x4600 then Style else
    if is_code_among code toggles then Toggle else
    if is_code_among code refused_codes then Refused else Plain

-- the sprm sets its code to its value
abbrev pub is_property : Class → Bool
is_property Plain = true
is_property Toggle = true
is_property Clear = false
is_property Style = false
is_property Refused = false

-- it removes what was set
abbrev pub is_clear : Class → Bool
is_clear Plain = false
is_clear Toggle = false
is_clear Clear = true
is_clear Style = false
is_clear Refused = false

-- it names the style
abbrev pub is_style : Class → Bool
is_style Plain = false
is_style Toggle = false
is_style Clear = false
is_style Style = true
is_style Refused = false

-- a code that is not read, of a group that the place holds
abbrev pub IsRefusedIn : ℕ → ℕ → Type 0
IsRefusedIn groups code = IsTrue (is_held groups code) × (class_of code ≡ Refused)
