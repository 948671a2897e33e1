-- Tags as brackets: a start tag opens, an end tag of the same name closes; those of void elements do neither.
use Rattle.std.specs.Prelude.{◌≡◌, ℕ, ◌==◌, Bool, ◌||◌, List, [], ◌∷◌, ◌++◌, codes, if◌then◌else◌}
use Rattle.std.specs.Str.{bytes_eq}
use Rattle.html_text.specs.Tokens.{Token, Character, Tag}

-- what a tag is: of a void element, the start of an element, or its end
pub data TagKind : Type 0 where
  Void : TagKind
  Start : List ℕ → TagKind
  End : List ℕ → TagKind

-- what is before the first space of a tag
abbrev pub tag_name : List ℕ → List ℕ
tag_name [] = []
tag_name (code ∷ rest) = if code == 32 then [] else code ∷ tag_name rest

abbrev pub is_void : List ℕ → Bool
is_void name =
    bytes_eq name (codes "br") || (bytes_eq name (codes "img")
    || (bytes_eq name (codes "meta") || bytes_eq name (codes "!DOCTYPE")))

abbrev pub kind_of_word : List ℕ → TagKind
kind_of_word [] = Start []
kind_of_word (code ∷ name) =
    if code == 47 then End name else if is_void (code ∷ name) then Void else Start (code ∷ name)

abbrev pub tag_kind : List ℕ → TagKind
tag_kind inner = kind_of_word (tag_name inner)

-- from the names of the open elements, the outermost first, to those behind a tag
abbrev pub IsBehindTag : TagKind → List (List ℕ) → List (List ℕ) → Type 0
IsBehindTag Void around behind = behind ≡ around
IsBehindTag (Start name) around behind = behind ≡ around ++ name ∷ []
IsBehindTag (End name) around behind = around ≡ behind ++ name ∷ []

-- tags of a page nest, from the names of the elements that are open to those at its end
abbrev pub AreBrackets : List (List ℕ) → List Token → List (List ℕ) → Type 0
AreBrackets around [] end = around ≡ end
AreBrackets around (Character code ∷ more) end = AreBrackets around more end
AreBrackets around (Tag inner ∷ more) end =
    (behind : List (List ℕ)) × (IsBehindTag (tag_kind inner) around behind × AreBrackets behind more end)
