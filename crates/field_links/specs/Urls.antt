-- The URL of a link, and the name of the anchor of a bookmark.
use Rattle.std.specs.Prelude.{ℕ, ◌+◌, ◌-◌, ◌/◌, ◌%◌, nat_le, nat_lt, Bool, true, false, not, ◌&&◌, ◌||◌, ◌==◌}
use Rattle.std.specs.Prelude.{List, [], ◌∷◌, ◌++◌}
use Rattle.std.specs.Prelude.{Option, Some, None, codes, encode_utf8, if◌then◌else◌}
use Rattle.std.specs.List.{flat_map, list_any}
use Rattle.text_codes.specs.Digits.{byte_text, word_text}
use Rattle.field_links.specs.Instructions.{Target}
use Rattle.field_links.specs.Characters.{characters}

abbrev pub is_code_between : ℕ → ℕ → ℕ → Bool
is_code_between first last code = nat_le first code && nat_le code last

-- A to Z, a to z, 0 to 9
abbrev pub is_alphanumeric : ℕ → Bool
is_alphanumeric code = is_code_between 65 90 code || (is_code_between 97 122 code || is_code_between 48 57 code)

-- [RFC 3986] the characters of a URL, without the parentheses
abbrev pub is_url_character : ℕ → Bool
is_url_character code = is_alphanumeric code || list_any (λ mark. code == mark) (codes "-._~:/?#[]@!$&'*+,;=%")

abbrev pub upper_hex_digit : ℕ → ℕ
upper_hex_digit number = if nat_lt number 10 then 48 + number else 65 + (number - 10)

-- a byte that is no character of a URL is behind a percent sign, in two digits
abbrev pub percent_byte : ℕ → List ℕ
percent_byte byte =
    if is_url_character byte then byte ∷ [] else 37 ∷ upper_hex_digit (byte / 16 % 16) ∷ upper_hex_digit (byte % 16) ∷ []

abbrev pub percent_character : ℕ → List ℕ
percent_character code = flat_map percent_byte (encode_utf8 code)

-- the text of units in a URL
abbrev pub percent_text : List ℕ → List ℕ
percent_text units = flat_map percent_character (characters units)

-- the characters that represent themselves in the name of an anchor: letters, digits, _ and -, and all from U+00A0 on
abbrev pub is_anchor_character : ℕ → Bool
is_anchor_character code =
    is_alphanumeric code || (code == 95 || (code == 45 || (nat_le 0xA0 code && not (code == 0xFFFD))))

-- two digits, or four
abbrev pub hex_text : ℕ → List ℕ
hex_text code = if nat_lt code 256 then byte_text code else word_text code

-- any other is its number between full stops
abbrev pub anchor_character : ℕ → List ℕ
anchor_character code = if is_anchor_character code then code ∷ [] else 46 ∷ (hex_text code ++ 46 ∷ [])

abbrev pub anchor_text : List ℕ → List ℕ
anchor_text units = flat_map anchor_character (characters units)

-- the name of the anchor of a bookmark; no other id of a page begins so
abbrev pub anchor_name : List ℕ → List ℕ
anchor_name units = codes "bm-" ++ anchor_text units

abbrev pub lower_case_unit : ℕ → ℕ
lower_case_unit unit = if is_code_between 65 90 unit then unit + 32 else unit

-- the units begin with the scheme, in letters of any case
abbrev pub begins : List ℕ → List ℕ → Bool
begins [] units = true
begins (letter ∷ scheme) [] = false
begins (letter ∷ scheme) (unit ∷ units) = lower_case_unit unit == letter && begins scheme units

abbrev pub has_scheme : List ℕ → Bool
has_scheme units =
    begins (codes "http:") units || (begins (codes "https:") units || (begins (codes "mailto:") units || (begins
    (codes "ftp:") units || begins (codes "tel:") units)))

abbrev pub is_nil : List ℕ → Bool
is_nil [] = true
is_nil (unit ∷ units) = false

-- behind the address: a number sign and the location
abbrev pub fragment_text : List ℕ → List ℕ
fragment_text location = if is_nil location then [] else 35 ∷ percent_text location

-- the URL of a location in the document itself
abbrev pub local_url : List ℕ → Option (List ℕ)
local_url location = if is_nil location then None else Some (35 ∷ anchor_name location)

abbrev pub url_of : List ℕ → List ℕ → Option (List ℕ)
url_of address location =
    if is_nil address then local_url location else
    if has_scheme address then Some (percent_text address ++ fragment_text location) else None

-- where a link may lead: to an address of one of five schemes, or to a bookmark
abbrev pub url_text : Target → Option (List ℕ)
url_text target = url_of target.address target.location
