-- The lines on a summary.
use Rattle.std.specs.Prelude.{ℕ, ◌/◌, ◌%◌, ◌==◌, ◌&&◌, Bool, not, nat_le, if◌then◌else◌, List, [], ◌∷◌}
use Rattle.std.specs.Prelude.{◌++◌, Option, Some, None, codes}
use Rattle.std.specs.List.{flat_map}
use Rattle.std.specs.Fmt.{decimal}
use Rattle.text_codes.specs.Shown.{hex_digit}
use Rattle.text_codes.specs.Shown.{line}
use Rattle.summary_set.specs.Texts.{text_property}

-- a byte that is shown as it is: from 0x20 to 0x7E, but no reverse solidus
abbrev pub is_shown_byte : ℕ → Bool
is_shown_byte byte = nat_le 0x20 byte && (nat_le byte 0x7E && not (byte == 0x5C))

-- any other one: a reverse solidus, the letter x and two digits
abbrev pub byte_escape : ℕ → List ℕ
byte_escape byte = 92 ∷ 120 ∷ hex_digit (byte / 16) ∷ hex_digit (byte % 16) ∷ []

abbrev pub shown_byte : ℕ → List ℕ
shown_byte byte = if is_shown_byte byte then byte ∷ [] else byte_escape byte

-- a text, or `-` for none
abbrev pub shown_field : Option (List ℕ) → List ℕ
shown_field None = codes "-"
shown_field (Some bytes) = flat_map shown_byte bytes

-- what a field is called, and its text
abbrev pub field_line : (word : List ℕ) → Option (List ℕ) → List ℕ
field_line word field = line (word ++ shown_field field)

abbrev pub three_lines : (title subject author : Option (List ℕ)) → List ℕ
three_lines title subject author =
    field_line (codes "title ") title ++ (field_line (codes "subject ") subject ++ field_line (codes "author ") author)

-- title, subject and author of a stream
abbrev pub fields_lines : List ℕ → List ℕ
fields_lines stream = three_lines (text_property stream 2) (text_property stream 3) (text_property stream 4)

-- the document of the name has no summary
abbrev pub no_summary_line : List ℕ → List ℕ
no_summary_line name = line (name ++ codes ": no summary")

-- its summary is no property set, by the place of the first condition that fails
abbrev pub wrong_summary_line : List ℕ → ℕ → List ℕ
wrong_summary_line name place = line (name ++ (codes ": summary wrong at " ++ decimal place))
