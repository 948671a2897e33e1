-- Which texts, properties and rows a command may have.
use Rattle.std.specs.Prelude.{◌≡◌, ◌⊎◌, ℕ, ◌+◌, ◌*◌, ◌<◌, ◌≤◌, List, length, All, ⊤}
use Rattle.std.specs.List.{sum_by}
use Rattle.prop_map.specs.Formed.{IsPropertyMap, character_groups, paragraph_groups, section_groups}
use Rattle.edit_script.specs.declared.commands.Command.{Command}
use Rattle.edit_script.specs.declared.commands.Command.TheVariants.{Insert, Erase, Char, Plain, Para, Style, Field}
use Rattle.edit_script.specs.declared.commands.Command.TheVariants.{Note, Split, Merge, Sect, Row, StyleChar}
use Rattle.edit_script.specs.declared.commands.Command.TheVariants.{StylePara, Bookmark, Unmark, Save}

-- a character that may be put: none below U+0020 but a tab and a line break
abbrev pub IsPutUnit : ℕ → Type 0
IsPutUnit unit = (0x20 ≤ unit) ⊎ ((unit ≡ 0x09) ⊎ (unit ≡ 0x0B))

-- Profile: the most units that a command's texts have together
abbrev pub most_units : ℕ
most_units = 4000000000

abbrev pub IsPutText : List ℕ → Type 0
IsPutText text = All IsPutUnit text × (length text ≤ most_units)

-- the texts of a field
pub record IsPutField (code result : List ℕ) : Type 0 where
  pub instruction : All IsPutUnit code
  pub shown : All IsPutUnit result
  pub few : length code + length result ≤ most_units

-- [MS-DOC] sprmTDefTable: 1 to 63 cells, which end at 32,767 twips at most
pub record IsPutRow (width : ℕ) (cells : List (List ℕ)) : Type 0 where
  pub some : 0 < length cells
  pub few : length cells ≤ 63
  pub wide : 0 < width
  pub within : length cells * width ≤ 32767
  pub texts : All (All IsPutUnit) cells
  pub units : sum_by length cells ≤ most_units

-- a character that is none of control
abbrev pub IsShownUnit : ℕ → Type 0
IsShownUnit unit = 0x20 ≤ unit

-- a name of a bookmark that may be put: 1 to 40 units, none below U+0020
pub record IsPutName (name : List ℕ) : Type 0 where
  pub some : 0 < length name
  pub few : length name ≤ 40
  pub shown : All IsShownUnit name

-- the command has texts that may be put, and properties that its place may hold
abbrev pub HasValidCodes : Command → Type 0
HasValidCodes (Insert story at text) = IsPutText text
HasValidCodes (Erase story from to) = ⊤
HasValidCodes (Char story from to set) = IsPropertyMap character_groups set
HasValidCodes (Plain story from to) = ⊤
HasValidCodes (Para story at set) = IsPropertyMap paragraph_groups set
HasValidCodes (Style story at istd) = ⊤
HasValidCodes (Field story at type code result) = IsPutField code result
HasValidCodes (Note at text) = IsPutText text
HasValidCodes (Split story at) = ⊤
HasValidCodes (Merge story at) = ⊤
HasValidCodes (Sect at new set) = IsPropertyMap section_groups set
HasValidCodes (Row story at width cells) = IsPutRow width cells
HasValidCodes (StyleChar istd set) = IsPropertyMap character_groups set
HasValidCodes (StylePara istd set) = IsPropertyMap paragraph_groups set
HasValidCodes (Bookmark name from to) = IsPutName name
HasValidCodes (Unmark name) = ⊤
HasValidCodes (Save full) = ⊤
