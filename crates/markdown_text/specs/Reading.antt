-- A stated reader of Markdown, by lines: a part of what CommonMark and GFM say of characters. It knows which of them
-- are text and which are markup, and nothing of what the markup makes.
use Rattle.std.specs.Prelude.{ℕ, ◌==◌, List, [], ◌∷◌, ◌++◌, codes, if◌then◌else◌}
use Rattle.std.specs.Str.{bytes_eq}
use Rattle.markdown_text.specs.declared.line.LineState.{LineState}
use Rattle.markdown_text.specs.declared.line.LineState.TheVariants.{Start, Within}
use Rattle.markdown_text.specs.Lines.{is_special, after_character, after_special, after_tag}
use Rattle.markdown_text.specs.Tokens.{Token, Character, Markup, Tag, Destination, after_token}

-- what is being read; of a tag, a reference or a destination also what was read of it
pub data Reading : Type 0 where
  In_text : LineState → Reading
  In_escape : LineState → Reading
  In_tag : LineState → List ℕ → Reading
  In_reference : LineState → List ℕ → Reading
  In_destination : List ℕ → Reading
  In_destination_escape : List ℕ → Reading

-- the character of a reference; of one that is not known U+FFFD
abbrev pub numeric_code : List ℕ → ℕ
numeric_code name =
    if bytes_eq name (codes "#32") then 32 else
    if bytes_eq name (codes "#9") then 9 else
    if bytes_eq name (codes "#10") then 10 else
    if bytes_eq name (codes "#13") then 13 else 0xFFFD

-- the tokens of the characters that are left; what is not ended at their end is none
abbrev pub read_from : Reading → List ℕ → List Token
read_from (In_text state) [] = []
read_from (In_text state) (code ∷ rest) =
    if is_special state code then (
    if code == 92 then read_from (In_escape state) rest else
    if code == 60 then read_from (In_tag state []) rest else
    if code == 38 then read_from (In_reference state []) rest else
    if code == 40 then read_from (In_destination []) rest else
    Markup code ∷ read_from (In_text (after_special state code)) rest
    ) else Character code ∷ read_from (In_text (after_character state code)) rest
read_from (In_escape state) [] = []
read_from (In_escape state) (code ∷ rest) = Character code ∷ read_from (In_text (after_character state code)) rest
read_from (In_tag state inner) [] = []
read_from (In_tag state inner) (code ∷ rest) =
    if code == 62 then Tag inner ∷ read_from (In_text (after_tag state)) rest else
    read_from (In_tag state (inner ++ code ∷ [])) rest
read_from (In_reference state name) [] = []
read_from (In_reference state name) (code ∷ rest) =
    if code == 59 then Character (numeric_code name) ∷ read_from (In_text (after_character state (numeric_code name)))
    rest else
    read_from (In_reference state (name ++ code ∷ [])) rest
read_from (In_destination url) [] = []
read_from (In_destination url) (code ∷ rest) =
    if code == 92 then read_from (In_destination_escape url) rest else
    if code == 41 then Destination url ∷ read_from (In_text Within) rest else
    read_from (In_destination (url ++ code ∷ [])) rest
read_from (In_destination_escape url) [] = []
read_from (In_destination_escape url) (code ∷ rest) = read_from (In_destination (url ++ code ∷ [])) rest

-- the tokens of a page
abbrev pub read : List ℕ → List Token
read page = read_from (In_text Start) page

-- markup of the page where it is none, as a space within a line, is read as a character: never the other way round
abbrev pub as_read : LineState → Token → Token
as_read state (Character code) = Character code
as_read state (Markup code) = if is_special state code then Markup code else Character code
as_read state (Tag inner) = Tag inner
as_read state (Destination url) = Destination url

abbrev pub all_as_read : LineState → List Token → List Token
all_as_read state [] = []
all_as_read state (token ∷ tokens) = as_read state token ∷ all_as_read (after_token state token) tokens
