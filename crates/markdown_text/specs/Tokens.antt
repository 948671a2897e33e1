-- What a Markdown page is printed of: characters of the document, and markup.
use Rattle.std.specs.Prelude.{ℕ, Bool, true, false, not, ◌&&◌, ◌==◌, List, [], ◌∷◌, ◌++◌, codes, if◌then◌else◌}
use Rattle.std.specs.Prelude.{Option, Some, None}
use Rattle.std.specs.List.{flat_map, list_all}
use Rattle.markdown_text.specs.declared.line.LineState.{LineState}
use Rattle.markdown_text.specs.declared.line.LineState.TheVariants.{Start, Digits, Within, Bracket, Colon}
use Rattle.markdown_text.specs.Lines.{is_among, is_special, after_character, after_markup, after_tag}

-- a character of the document, a character of markup, what is between < and >, or the destination of a link
pub data Token : Type 0 where
  Character : ℕ → Token
  Markup : ℕ → Token
  Tag : List ℕ → Token
  Destination : List ℕ → Token

-- the reference of a space or a tab where a block may begin
abbrev pub start_reference : LineState → ℕ → Option (List ℕ)
start_reference Start code = Some (if code == 32 then codes "&#32;" else codes "&#9;")
start_reference Digits code = None
start_reference Within code = None
start_reference Bracket code = None
start_reference Colon code = None

-- the reference of the end of a line
abbrev pub break_reference : ℕ → List ℕ
break_reference code = if code == 10 then codes "&#10;" else codes "&#13;"

-- what is no text even behind a reverse solidus is printed as a reference
abbrev pub reference : LineState → ℕ → Option (List ℕ)
reference state code =
    if is_among (10 ∷ 13 ∷ []) code then Some (break_reference code) else
    if is_among (9 ∷ 32 ∷ []) code then start_reference state code else None

-- a character of the document, as it is printed
abbrev pub escaped_by : Option (List ℕ) → Bool → ℕ → List ℕ
escaped_by (Some text) special code = text
escaped_by None special code = if special then 92 ∷ code ∷ [] else code ∷ []

abbrev pub escaped_in_line : LineState → ℕ → List ℕ
escaped_in_line state code = escaped_by (reference state code) (is_special state code) code

-- a destination ends with a parenthesis
abbrev pub is_destination_markup : ℕ → Bool
is_destination_markup code = is_among (codes "\\&()") code

abbrev pub destination_code : ℕ → List ℕ
destination_code code = if is_destination_markup code then 92 ∷ code ∷ [] else code ∷ []

abbrev pub destination_text : List ℕ → List ℕ
destination_text url = flat_map destination_code url

-- the characters of a token
abbrev pub printed_token : LineState → Token → List ℕ
printed_token state (Character code) = escaped_in_line state code
printed_token state (Markup code) = code ∷ []
printed_token state (Tag inner) = 60 ∷ (inner ++ 62 ∷ [])
printed_token state (Destination url) = 40 ∷ (destination_text url ++ 41 ∷ [])

-- where the line is behind a token
abbrev pub after_token : LineState → Token → LineState
after_token state (Character code) = after_character state code
after_token state (Markup code) = after_markup state code
after_token state (Tag inner) = after_tag state
after_token state (Destination url) = Within

-- where it is behind tokens
abbrev pub after_tokens : LineState → List Token → LineState
after_tokens state [] = state
after_tokens state (token ∷ tokens) = after_tokens (after_token state token) tokens

-- the characters of tokens, and of a page
abbrev pub printed_from : LineState → List Token → List ℕ
printed_from state [] = []
printed_from state (token ∷ tokens) = printed_token state token ++ printed_from (after_token state token) tokens

abbrev pub printed : List Token → List ℕ
printed tokens = printed_from Start tokens

abbrev pub is_bracket : LineState → Bool
is_bracket Start = false
is_bracket Digits = false
is_bracket Within = false
is_bracket Bracket = true
is_bracket Colon = false

-- markup begins no escape, reference, tag or destination by itself, a tag has no > of its own, and a destination is
-- behind a bracket
abbrev pub is_valid : LineState → Token → Bool
is_valid state (Character code) = true
is_valid state (Markup code) = not (is_among (codes "\\&<(") code)
is_valid state (Tag inner) = list_all (λ code. not (code == 62)) inner
is_valid state (Destination url) = is_bracket state

abbrev pub are_valid : LineState → List Token → Bool
are_valid state [] = true
are_valid state (token ∷ tokens) = is_valid state token && are_valid (after_token state token) tokens
