-- Objects as rows of members in the order of their keys: how one is built, and how it is read from its first member on.
use Rattle.std.specs.Prelude.{◌≡◌, ℕ, List, Option, Some, None, Result, Ok, Err, ⊤, option_map, bytes_eq}
use Rattle.std.specs.Prelude.{if◌then◌else◌}
use Rattle.serde_json.specs.Data.{Data, number, unsigned, Members, no_members, member}
use Rattle.edit_script.specs.declared.faults.ShapeError.{ShapeError}
use Rattle.edit_script.specs.declared.faults.ShapeError.TheVariants.{Shape, Memory}
use Rattle.edit_script.specs.Json.{◌>>=◌}

-- a whole number
abbrev pub number_json : ℕ → Data
number_json n = number (unsigned n)

-- the members behind one that need not be there
abbrev pub member_if : List ℕ → Option Data → Members → Members
member_if key None more = more
member_if key (Some value) more = member key value more

-- the value at a key that comes first, and the members behind it
abbrev pub taken : List ℕ → Members → Option (Data × Members)
taken key no_members = None
taken key (member name value more) = if bytes_eq name key then Some (value, more) else None

-- the same where the key comes first, else nothing and all members
abbrev pub taken_if : List ℕ → Members → Option Data × Members
taken_if key no_members = (None, no_members)
taken_if key (member name value more) =
    if bytes_eq name key then (Some value, more) else (None, member name value more)

-- what a value is read as, where there is one
abbrev pub each_if : {A : Type 0} → (Data → Option A) → Option Data → Option (Option A)
each_if reads None = Some None
each_if reads (Some value) = option_map Some (reads value)

-- the value at a key that comes first, as it is read, and the members behind it
abbrev pub need : {A : Type 0} → List ℕ → (Data → Option A) → Members → Option (A × Members)
need key reads members = do
  first ← taken key members
  found ← reads first.0
  Some (found, first.1)

-- the same of a key that need not be there
abbrev pub may : {A : Type 0} → List ℕ → (Data → Option A) → Members → Option (Option A × Members)
may key reads members = do
  found ← each_if reads (taken_if key members).0
  Some (found, (taken_if key members).1)

-- no member is left
abbrev pub no_member_left : Members → Option ⊤
no_member_left no_members = Some tt
no_member_left (member name value more) = None

-- what a step over the members that are left answers; want of memory is free
abbrev pub Steps : {A : Type 0} → (Members → Option (A × Members)) → Members → Result A ShapeError → Members → Type 0
Steps step old (Ok given) new = step old ≡ Some (given, new)
Steps step old (Err Shape) new = step old ≡ None
Steps step old (Err Memory) new = ⊤
