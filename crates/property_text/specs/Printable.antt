-- Texts that no terminal takes for more than lines.
use Rattle.std.specs.Prelude.{ℕ, Bool, not, ◌&&◌, ◌||◌, ◌==◌, nat_lt, nat_le, List}
use Rattle.std.specs.Str.{NoCharPasses}

-- a character that a terminal takes for a control; a line feed is none here
abbrev pub is_control_in_lines : ℕ → Bool
is_control_in_lines code = (nat_lt code 0x20 && not (code == 10)) || (nat_le 0x7F code && nat_le code 0x9F)

-- the bytes are characters, and none of them is a control
abbrev pub HasNoControls : List ℕ → Type 0
HasNoControls bytes = NoCharPasses is_control_in_lines bytes
