-- The text that is shown for 16-bit units.
use Rattle.std.specs.Prelude.{◌≡◌, ℕ, ◌+◌, ◌-◌, ◌*◌, ◌/◌, ◌%◌, ◌<◌, Bool, false, ◌&&◌, ◌||◌, ◌==◌, nat_lt, nat_le, List}
use Rattle.std.specs.Prelude.{[], ◌∷◌, ◌++◌, if◌then◌else◌, encode_utf8}

-- a line ends with a line feed
abbrev pub line : List ℕ → List ℕ
line text = text ++ 10 ∷ []

-- the two units are a surrogate pair
abbrev pub is_pair : ℕ → ℕ → Bool
is_pair first second = nat_le 0xD800 first && (nat_lt first 0xDC00 && (nat_le 0xDC00 second && nat_lt second 0xE000))

-- the character of a pair
abbrev pub pair_code : ℕ → ℕ → ℕ
pair_code first second = 0x10000 + (first - 0xD800) * 0x400 + (second - 0xDC00)

-- a unit that is shown by its number: a control, the reverse solidus, a surrogate in no pair
abbrev pub is_escaped : ℕ → Bool
is_escaped unit = nat_lt unit 0x20 || (unit == 0x5C || (nat_le 0xD800 unit && nat_lt unit 0xE000))

-- a unit that is shown as its own byte
pub record IsUnescapedAscii (unit : ℕ) : Type 0 where
  pub ascii : unit < 0x80
  pub itself : is_escaped unit ≡ false

-- the lower-case hexadecimal digit of a number below 16
abbrev pub hex_digit : ℕ → ℕ
hex_digit number = if nat_lt number 10 then 48 + number else 97 + (number - 10)

-- a reverse solidus, the letter u and four digits
unfoldable pub escape : ℕ → List ℕ
escape unit =
    92 ∷ 117 ∷ hex_digit (unit / 0x1000) ∷ hex_digit (unit / 0x100 % 16) ∷ hex_digit (unit / 0x10 % 16) ∷ hex_digit
    (unit % 16) ∷ []

-- a unit in no pair; where paragraphs are lines, the paragraph mark is a line feed
abbrev pub shown_alone : Bool → ℕ → List ℕ
shown_alone lines unit =
    if is_escaped unit then (if lines && unit == 0x0D then 10 ∷ [] else escape unit) else encode_utf8 unit

-- the text of units: each pair is its character, each other unit is shown by itself
unfoldable pub shown_text : Bool → List ℕ → List ℕ
shown_text lines [] = []
shown_text lines (unit ∷ []) = shown_alone lines unit
shown_text lines (first ∷ second ∷ rest) =
    if is_pair first second then encode_utf8 (pair_code first second) ++ shown_text lines rest else shown_alone lines
    first ++ shown_text lines (second ∷ rest)

-- a text that more units may follow: what is settled, and the units that wait for the next one
pub record Showing : Type 0 where
  pub lines : Bool
  pub text : List ℕ
  pub waiting : List ℕ

-- the whole text, when these units follow
abbrev pub completed : Showing → List ℕ → List ℕ
completed so_far units = so_far.text ++ shown_text so_far.lines (so_far.waiting ++ units)
