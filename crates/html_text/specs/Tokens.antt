-- What an HTML page is printed of: characters of the document, and tags.
use Rattle.std.specs.Prelude.{ℕ, Bool, true, not, ◌==◌, List, [], ◌∷◌, ◌++◌, codes, if◌then◌else◌}
use Rattle.std.specs.List.{flat_map, list_all}

-- a character, or what is between < and >
pub data Token : Type 0 where
  Character : ℕ → Token
  Tag : List ℕ → Token

-- a character that could be read as markup is printed as a reference
abbrev pub escaped : ℕ → List ℕ
escaped code =
    if code == 38 then codes "&amp;" else
    if code == 60 then codes "&lt;" else
    if code == 62 then codes "&gt;" else
    if code == 34 then codes "&quot;" else code ∷ []

-- a text of the document, as it is printed
abbrev pub escaped_text : List ℕ → List ℕ
escaped_text text = flat_map escaped text

-- the characters of a token
abbrev pub printed_token : Token → List ℕ
printed_token (Character code) = escaped code
printed_token (Tag inner) = 60 ∷ (inner ++ 62 ∷ [])

-- the characters of a page
abbrev pub printed : List Token → List ℕ
printed tokens = flat_map printed_token tokens

-- a tag has no > of its own
abbrev pub is_closed_token : Token → Bool
is_closed_token (Character code) = true
is_closed_token (Tag inner) = list_all (λ code. not (code == 62)) inner
