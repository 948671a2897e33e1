-- Characters that neither begin nor end a tag, nor the value of an attribute.
use Rattle.std.specs.Prelude.{ℕ, Bool, not, ◌||◌, ◌==◌}

abbrev pub is_safe : ℕ → Bool
is_safe code = not (code == 60 || (code == 62 || code == 34))
