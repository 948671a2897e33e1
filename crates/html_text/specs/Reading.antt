-- A part of the standard's tokenizer: text, in which < begins a tag and & a reference; a tag, up to its >; a reference,
-- up to its semicolon.
use Rattle.std.specs.Prelude.{ℕ, ◌==◌, List, [], ◌∷◌, ◌++◌, codes, if◌then◌else◌}
use Rattle.std.specs.Str.{bytes_eq}
use Rattle.html_text.specs.Tokens.{Token, Character, Tag}

-- what is being read; of a tag or a reference also what was read of it
pub data TokenizerState : Type 0 where
  In_text : TokenizerState
  In_tag : List ℕ → TokenizerState
  In_reference : List ℕ → TokenizerState

-- the character of a reference; of one that is not known U+FFFD
abbrev pub named_code : List ℕ → ℕ
named_code name =
    if bytes_eq name (codes "amp") then 38 else
    if bytes_eq name (codes "lt") then 60 else
    if bytes_eq name (codes "gt") then 62 else
    if bytes_eq name (codes "quot") then 34 else 0xFFFD

-- the tokens of the characters that are left; what is not ended at their end is none
abbrev pub read_from : TokenizerState → List ℕ → List Token
read_from In_text [] = []
read_from In_text (code ∷ rest) =
    if code == 60 then read_from (In_tag []) rest else
    if code == 38 then read_from (In_reference []) rest else Character code ∷ read_from In_text rest
read_from (In_tag inner) [] = []
read_from (In_tag inner) (code ∷ rest) =
    if code == 62 then Tag inner ∷ read_from In_text rest else read_from (In_tag (inner ++ code ∷ [])) rest
read_from (In_reference name) [] = []
read_from (In_reference name) (code ∷ rest) =
    if code == 59 then Character (named_code name) ∷ read_from In_text rest else
    read_from (In_reference (name ++ code ∷ [])) rest

-- the tokens of a page
abbrev pub read : List ℕ → List Token
read page = read_from In_text page
