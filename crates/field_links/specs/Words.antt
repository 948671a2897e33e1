-- The words of a field's instruction: units between separators, or between quotes.
use Rattle.std.specs.Prelude.{ℕ, nat_le, Bool, true, false, ◌==◌, List, [], ◌∷◌, ◌++◌, if◌then◌else◌}

pub record Word : Type 0 where
  pub is_quoted : Bool
  pub units : List ℕ

abbrev pub plain : List ℕ → Word
plain units = record { is_quoted = false; units = units }

abbrev pub quoted : List ℕ → Word
quoted units = record { is_quoted = true; units = units }

-- Profile: a space or a control
abbrev pub is_separator : ℕ → Bool
is_separator unit = nat_le unit 0x20

-- a quote begins and ends a word
abbrev pub is_quote : ℕ → Bool
is_quote unit = unit == 0x22

-- a reverse solidus takes the next unit as it is between quotes, and begins a switch elsewhere
abbrev pub is_solidus : ℕ → Bool
is_solidus unit = unit == 0x5C

-- what is being read: nothing, a word and what was read of it
pub data WordReading : Type 0 where
  Between : WordReading
  In_word : List ℕ → WordReading
  In_quotes : List ℕ → WordReading
  In_escape : List ℕ → WordReading

-- the words of the units that are left; the last one may lack its quote
abbrev pub words_from : WordReading → List ℕ → List Word
words_from Between [] = []
words_from Between (unit ∷ rest) =
    if is_separator unit then words_from Between rest else
    if is_quote unit then words_from (In_quotes []) rest else words_from (In_word (unit ∷ [])) rest
words_from (In_word units) [] = plain units ∷ []
words_from (In_word units) (unit ∷ rest) =
    if is_separator unit then plain units ∷ words_from Between rest else
    if is_quote unit then plain units ∷ words_from (In_quotes []) rest else words_from (In_word (units ++ unit ∷ [])) rest
words_from (In_quotes units) [] = quoted units ∷ []
words_from (In_quotes units) (unit ∷ rest) =
    if is_quote unit then quoted units ∷ words_from Between rest else
    if is_solidus unit then words_from (In_escape units) rest else words_from (In_quotes (units ++ unit ∷ [])) rest
words_from (In_escape units) [] = quoted units ∷ []
words_from (In_escape units) (unit ∷ rest) = words_from (In_quotes (units ++ unit ∷ [])) rest

abbrev pub field_words : List ℕ → List Word
field_words instruction = words_from Between instruction
