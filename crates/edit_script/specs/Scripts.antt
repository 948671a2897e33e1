-- What bytes are as a script, and the first thing that is wrong with them.
use Rattle.std.specs.Prelude.{◌≡◌, ◌⊎◌, ℕ, ◌-◌, ◌<◌, ◌≤◌, List, length, map, take, slice_get, Bool, Some, None, ⊤}
use Rattle.serde_json.specs.Data.{Data, Items, array}
use Rattle.serde_json.specs.Find.{as_array}
use Rattle.edit_script.specs.declared.commands.Command.{Command}
use Rattle.edit_script.specs.declared.commands.Command.TheVariants.{Save}
use Rattle.edit_script.specs.declared.faults.ScriptFault.{ScriptFault}
use Rattle.edit_script.specs.declared.faults.ScriptFault.TheVariants.{Json, Shape, TooLong, Memory}
use Rattle.edit_script.specs.Json.{IsJson, list_of}
use Rattle.edit_script.specs.Shapes.{command_of}

-- the most members of a script
abbrev pub most_commands : ℕ
most_commands = 4096

-- the members spell these commands, one each
abbrev pub Spell : List Data → List Command → Type 0
Spell members commands = map command_of members ≡ map Some commands

-- the last command is a save
pub record EndsWithSave (commands : List Command) : Type 0 where
  pub full : Bool
  pub last : slice_get commands (length commands - 1) ≡ Some (Save full)

-- the members are a script of these commands
pub record IsScriptOf (members : List Data) (commands : List Command) : Type 0 where
  pub few : length members ≤ most_commands
  pub each : Spell members commands
  pub ends : EndsWithSave commands

-- the member at this index is no command, and each before it is one
pub record IsFirstMisfit (members : List Data) (index : ℕ) : Type 0 where
  pub value : Data
  pub there : slice_get members index ≡ Some value
  pub wrong : command_of value ≡ None
  pub commands : List Command
  pub before : Spell (take index members) commands

-- each member is a command and the last one is no save; the index is behind them
pub record EndsWithoutSave (members : List Data) (index : ℕ) : Type 0 where
  pub commands : List Command
  pub each : Spell members commands
  pub no_save : ¬ (EndsWithSave commands)
  pub here : index ≡ length members

-- the bytes are a JSON array, and its members are such
pub record SpellsArray (bytes : List ℕ) (such : List Data → Type 0) : Type 0 where
  pub members : Items
  pub json : IsJson bytes (array members)
  pub are : such (list_of members)

-- the bytes are JSON and no array
pub record SpellsNoArray (bytes : List ℕ) : Type 0 where
  pub value : Data
  pub json : IsJson bytes value
  pub none : as_array value ≡ None

-- the bytes are a script of these commands
abbrev pub IsScript : List ℕ → List Command → Type 0
IsScript bytes commands = SpellsArray bytes (λ members. IsScriptOf members commands)

-- what is wrong with the members first: they are too many; or at this index is the first that is no command; or each is
-- one and no save is last
abbrev pub IsMembersFault : List Data → ScriptFault → Type 0
IsMembersFault members Json = ⊥
IsMembersFault members (Shape index) = (length members ≤ most_commands) × (IsFirstMisfit members index ⊎
    EndsWithoutSave members index)
IsMembersFault members TooLong = most_commands < length members
IsMembersFault members Memory = ⊤

-- what is wrong with the bytes first: they are no JSON; they are no array; or what is wrong with its members
abbrev pub IsScriptFault : List ℕ → ScriptFault → Type 0
IsScriptFault bytes Json = (value : Data) → ¬ (IsJson bytes value)
IsScriptFault bytes (Shape index) = ((index ≡ 0) × SpellsNoArray bytes) ⊎ SpellsArray bytes (λ members. IsMembersFault
    members (Shape index))
IsScriptFault bytes TooLong = SpellsArray bytes (λ members. IsMembersFault members TooLong)
IsScriptFault bytes Memory = ⊤
