-- What the definitions imply.
use Rattle.std.specs.Prelude.{◌≡◌, ℕ, List, Option, Some, None, IsSome, if◌then◌else◌, bytes_eq, ⊤}
use Rattle.std.specs.Option.{option_or}
use Rattle.std.specs.FinMap.{get}
use Rattle.serde_json.specs.Data.{Data, Members, no_members, member, object}
use Rattle.prop_map.specs.Settings.{Properties}
use Rattle.edit_script.specs.declared.commands.Command.{Command}
use Rattle.edit_script.specs.declared.faults.ScriptFault.{ScriptFault}
use Rattle.edit_script.specs.declared.faults.ScriptFault.TheVariants.{Json, Shape, TooLong, Memory}
use Rattle.edit_script.specs.Json.{◌>>=◌}
use Rattle.edit_script.specs.Hex.{code_of_digits}
use Rattle.edit_script.specs.Values.{bytes_of, properties_of}
use Rattle.edit_script.specs.Scripts.{IsScript, IsScriptFault}

-- bytes are a script of one list of commands at most
abbrev pub ScriptIsOne : Type 0
ScriptIsOne = (bytes : List ℕ) (one other : List Command) → IsScript bytes one → IsScript bytes other → one ≡ other

-- a fault for another cause than memory
abbrev pub IsScriptCause : ScriptFault → Type 0
IsScriptCause Json = ⊤
IsScriptCause (Shape index) = ⊤
IsScriptCause TooLong = ⊤
IsScriptCause Memory = ⊥

-- bytes have one fault at most, and a script has none
pub record FaultIsOne : Type 0 where
  pub one : (bytes : List ℕ) (one other : ScriptFault) → IsScriptCause one → IsScriptCause other → IsScriptFault bytes
      one →
      IsScriptFault bytes other → one ≡ other
  pub none : (bytes : List ℕ) (commands : List Command) (fault : ScriptFault) → IsScriptCause fault →
      IsScript bytes commands → ¬ (IsScriptFault bytes fault)

-- the value of the last member with the key
abbrev pub last_member_value : List ℕ → Members → Option Data
last_member_value key no_members = None
last_member_value key (member name value more) = option_or (last_member_value key more) (if bytes_eq key name then Some
    value
    else None)

-- the properties are what the keys of the object say
pub record AreAsKeyed (members : Members) (set : Properties) : Type 0 where
  -- at the code of a key are the bytes of its value
  pub said : (key : List ℕ) (code : ℕ) → code_of_digits key ≡ Some code → get set code ≡ (last_member_value key members
      >>=
      bytes_of)
  -- each code that is set has a key
  pub keyed : (code : ℕ) (bytes : List ℕ) → get set code ≡ Some bytes → (key : List ℕ) × (code_of_digits key ≡ Some
      code)
  -- each key is a code, and its value is bytes
  pub only : (key : List ℕ) (value : Data) → last_member_value key members ≡ Some value → IsSome (code_of_digits key) ×
      IsSome (bytes_of value)

abbrev pub PropertiesAreAsKeyed : Type 0
PropertiesAreAsKeyed = (members : Members) (set : Properties) → properties_of (object members) ≡ Some set →
    AreAsKeyed members set
