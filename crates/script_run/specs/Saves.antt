-- The saves among commands.
use Rattle.std.specs.Prelude.{ℕ, Bool, false, List, Option, Some, None}
use Rattle.std.specs.Bool.{beq}
use Rattle.std.specs.List.{count_by}
use Rattle.edit_script.specs.declared.commands.Command.{Command}
use Rattle.edit_script.specs.declared.commands.Command.TheVariants.{Save}

-- the mode of a save: true where it is full; an edit has none
abbrev pub save_mode : Command → Option Bool
save_mode (Save full) = Some full
save_mode command = None

-- the command saves in this mode
abbrev pub has_mode : Bool → Option Bool → Bool
has_mode full None = false
has_mode full (Some mode) = beq mode full

-- how many commands save in a mode
abbrev pub save_count : Bool → List Command → ℕ
save_count full commands = count_by (λ command. has_mode full (save_mode command)) commands
