-- What bytes are as JSON, and what is read of a value.
use Rattle.std.specs.Prelude.{◌≡◌, ℕ, List, [], ◌∷◌, Option, Some, None, Result, Ok, Err, ⊤, option_and_then, IsUtf8}
use Rattle.serde_json.specs.Data.{Data, Items, no_items, item}
use Rattle.serde_json.specs.Read.{read}
use Rattle.edit_script.specs.declared.faults.ShapeError.{ShapeError}
use Rattle.edit_script.specs.declared.faults.ShapeError.TheVariants.{Shape, Memory}

infixl 10 ◌>>=◌
-- what the next step makes of what was found
abbrev pub ◌>>=◌ : {A B : Type 0} → Option A → (A → Option B) → Option B
found >>= next = option_and_then next found

-- the bytes are UTF-8 and spell the value
abbrev pub IsJson : List ℕ → Data → Type 0
IsJson bytes value = IsUtf8 bytes × (read bytes ≡ Some value)

-- the members of an array in their order
abbrev pub list_of : Items → List Data
list_of no_items = []
list_of (item value more) = value ∷ list_of more

-- what each member is read as, where each has the form
abbrev pub each_of : {A : Type 0} → (Data → Option A) → Items → Option (List A)
each_of reads no_items = Some []
each_of reads (item value more) = do
  first ← reads value
  others ← each_of reads more
  Some (first ∷ others)

-- what a reader answers: what the value is read as, or a misfit exactly where it has not the form; want of memory is
-- free
abbrev pub GivesReading : {A : Type 0} → Result A ShapeError → Option A → Type 0
GivesReading (Ok given) found = found ≡ Some given
GivesReading (Err Shape) found = found ≡ None
GivesReading (Err Memory) found = ⊤
