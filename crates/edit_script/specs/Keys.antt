-- The keys of an object. An object that was read has each key once: of two members with one key the last counts.
use Rattle.std.specs.Prelude.{ℕ, List, Option, option_map, unwrap_or}
use Rattle.serde_json.specs.Data.{Data}
use Rattle.serde_json.specs.Events.{members_len}
use Rattle.serde_json.specs.Find.{as_object, get}
use Rattle.edit_script.specs.Json.{◌>>=◌}

-- what the value at the key is read as
abbrev pub key : {A : Type 0} → List ℕ → (Data → Option A) → Data → Option A
key name reads value = get name value >>= reads

-- how many keys a value has: those of an object
abbrev pub keys_in : Data → ℕ
keys_in value = unwrap_or (option_map members_len (as_object value)) 0
