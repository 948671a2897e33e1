-- What of a word, and of a URL, is left while it is gone through.
use Rattle.std.specs.Prelude.{◌≡◌, ℕ, ◌+◌, ◌<◌, Bool, true, false, List, [], ◌∷◌, ◌++◌, length, drop}
use Rattle.std.specs.Prelude.{slice_index, if◌then◌else◌}
use Rattle.std.specs.List.{flat_map}
use Rattle.field_links.specs.declared.word.Extent.{Extent}
use Rattle.field_links.specs.declared.word.Extent.TheVariants.{Plain, Quoted, Whole}
use Rattle.field_links.specs.declared.word.FieldWord.{FieldWord}
use Rattle.field_links.specs.declared.link_text.Manner.{Manner}
use Rattle.field_links.specs.declared.link_text.Manner.TheVariants.{Percent, Anchor}
use Rattle.field_links.specs.Words.{Word, field_words, is_separator, is_quote, is_solidus}
use Rattle.field_links.specs.Characters.{characters}
use Rattle.field_links.specs.declared.link_text.Left.{Left}
use Rattle.field_links.specs.Urls.{percent_character, anchor_character, fragment_text}

-- the units up to a separator or a quote, and what follows
abbrev pub plain_front : List ℕ → List ℕ
plain_front [] = []
plain_front (unit ∷ rest) =
    if is_separator unit then [] else if is_quote unit then [] else unit ∷ plain_front rest

abbrev pub behind_plain : List ℕ → List ℕ
behind_plain [] = []
behind_plain (unit ∷ rest) =
    if is_separator unit then unit ∷ rest else if is_quote unit then unit ∷ rest else behind_plain rest

-- the units up to a quote, and what follows it
unfoldable pub quoted_front : List ℕ → List ℕ
quoted_front [] = []
quoted_front (unit ∷ []) = if is_quote unit then [] else if is_solidus unit then [] else unit ∷ []
quoted_front (unit ∷ next ∷ rest) =
    if is_quote unit then [] else if is_solidus unit then next ∷ quoted_front rest else unit ∷ quoted_front (next ∷ rest)

unfoldable pub behind_quoted : List ℕ → List ℕ
behind_quoted [] = []
behind_quoted (unit ∷ []) = []
behind_quoted (unit ∷ next ∷ rest) =
    if is_quote unit then next ∷ rest else if is_solidus unit then behind_quoted rest else behind_quoted (next ∷ rest)

-- the units of a word that begins with the rest of an instruction
abbrev pub front : Extent → List ℕ → List ℕ
front Plain rest = plain_front rest
front Quoted rest = quoted_front rest
front Whole rest = rest

-- what follows it
abbrev pub behind_word : Extent → List ℕ → List ℕ
behind_word Plain rest = behind_plain rest
behind_word Quoted rest = behind_quoted rest
behind_word Whole rest = []

abbrev pub word_units : FieldWord → List ℕ
word_units word = front word.extent word.rest.now

abbrev pub rest_of : FieldWord → List ℕ
rest_of word = behind_word word.extent word.rest.now

abbrev pub is_in_quotes : Extent → Bool
is_in_quotes Plain = false
is_in_quotes Quoted = true
is_in_quotes Whole = false

abbrev pub word_of : FieldWord → Word
word_of word = record { is_quoted = is_in_quotes word.extent; units = word_units word }

-- the characters of units in a URL, or in the name of an anchor
abbrev pub character_in : Manner → ℕ → List ℕ
character_in Percent code = percent_character code
character_in Anchor code = anchor_character code

abbrev pub encoded_units : Manner → List ℕ → List ℕ
encoded_units manner units = flat_map (character_in manner) (characters units)

-- what is left of a URL, or of the name of an anchor
abbrev pub rest_of_target : Left → List ℕ
rest_of_target left = left.waiting ++ (encoded_units left.manner (word_units left.word) ++ fragment_text (word_units
    left.fragment))

-- the unit at the place is the first one of the word, and the word goes on behind it
pub record IsUnitAt (extent : Extent) (rest : List ℕ) (place : ℕ) : Type 0 where
  pub within : place < length rest
  pub unit : front extent rest ≡ slice_index rest place ∷ front extent (drop (place + 1) rest)
  pub follows : behind_word extent rest ≡ behind_word extent (drop (place + 1) rest)

pub record HasFirstUnit (word : FieldWord) (unit : ℕ) (more : FieldWord) : Type 0 where
  pub units : word_units word ≡ unit ∷ word_units more
  pub follows : rest_of word ≡ rest_of more
  pub extent : more.extent ≡ word.extent
  pub shorter : length more.rest.now < length word.rest.now

pub record HasFirstCharacter (word : FieldWord) (code : ℕ) (more : FieldWord) : Type 0 where
  pub characters : characters (word_units word) ≡ code ∷ characters (word_units more)
  pub shorter : length more.rest.now < length word.rest.now

pub record HasFirstWord (instruction : List ℕ) (word : Word) (rest : List ℕ) : Type 0 where
  pub words : field_words instruction ≡ word ∷ field_words rest
  pub shorter : length rest < length instruction
