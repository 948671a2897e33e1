-- The instruction of a HYPERLINK field: an address, and switches that may have an argument.
use Rattle.std.specs.Prelude.{ℕ, Bool, true, false, ◌||◌, ◌==◌, List, [], ◌∷◌, drop, if◌then◌else◌}
use Rattle.field_links.specs.declared.instruction.Role.{Role}
use Rattle.field_links.specs.declared.instruction.Role.TheVariants.{Text, Flag, Argued, Argument, Located, Location}
use Rattle.field_links.specs.declared.instruction.Part.{Part}
use Rattle.field_links.specs.declared.instruction.Part.TheVariants.{InAddress, InLocation}
use Rattle.field_links.specs.Words.{Word, is_solidus, field_words}

-- where a link leads: an address, and a location in what it names, or in the document itself. Each may be empty
pub record Target : Type 0 where
  pub address : List ℕ
  pub location : List ℕ

-- a switch of this letter: \l names a location, \o and \t have arguments of other kinds, and so has the general \*
abbrev pub role_of_letter : ℕ → Role
role_of_letter letter =
    if letter == 0x6C then Located else
    if letter == 0x6F || (letter == 0x74 || letter == 0x2A) then Argued else Flag

-- a word of this first unit, and the letters behind it
abbrev pub role_of_letters : List ℕ → Role
role_of_letters [] = Flag
role_of_letters (letter ∷ []) = role_of_letter letter
role_of_letters (letter ∷ next ∷ more) = Flag

abbrev pub role_of_units : List ℕ → Role
role_of_units [] = Text
role_of_units (unit ∷ letters) = if is_solidus unit then role_of_letters letters else Text

-- a word in quotes is no switch
abbrev pub role_of : Word → Role
role_of word = if word.is_quoted then Text else role_of_units word.units

-- what a word is behind one of another role
abbrev pub role_behind : Role → Word → Role
role_behind Text word = role_of word
role_behind Flag word = role_of word
role_behind Argued word = Argument
role_behind Argument word = role_of word
role_behind Located word = Location
role_behind Location word = role_of word

-- the address is the first text that is no argument, the location the argument of the first \l
abbrev pub is_part : Part → Role → Bool
is_part InAddress Text = true
is_part InAddress Flag = false
is_part InAddress Argued = false
is_part InAddress Argument = false
is_part InAddress Located = false
is_part InAddress Location = false
is_part InLocation Text = false
is_part InLocation Flag = false
is_part InLocation Argued = false
is_part InLocation Argument = false
is_part InLocation Located = false
is_part InLocation Location = true

abbrev pub part_behind : Part → Role → List Word → List ℕ
part_behind part before [] = []
part_behind part before (word ∷ words) =
    if is_part part (role_behind before word) then word.units else part_behind part (role_behind before word) words

-- the first word is the name of the field
abbrev pub target_of : List ℕ → Target
target_of instruction =
    let words = drop 1 (field_words instruction) in
    record { address = part_behind InAddress Text words; location = part_behind InLocation Text words }
